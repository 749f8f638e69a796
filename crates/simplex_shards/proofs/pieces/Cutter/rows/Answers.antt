use Rattle.std.proofs.Common.{◌≡◌, ℕ, List, length, arith, refl, ap, length-append}
use Rattle.std.specs.List.{flat_map}
use Rattle.simplex_base.specs.Format.{format_under}
use Rattle.simplex_stream.specs.Decoder.{HasDecoded, undecoded}
use Rattle.simplex_shards.specs.Pieces.{decoder_of}
use Rattle.simplex_shards.proofs.PieceLemmas.{index_piece}
use Rattle.simplex_shards.proofs.pieces.Cutter.rows.Goals as goal

pub returns-clause-rows : goal.returns-clause-rows
returns-clause-rows g c =
    let start : (stream : List ℕ) (ms : List g.row.M.Denot) →
    HasDecoded (format_under (record {
      is_value = g.M.Encoding.is_value;
      encoding = g.M.Encoding.encoding;
      fits = g.M.Read.fits;
      reading = g.M.Read.reading;
      takes_memory = g.M.Read.takes_memory;
    }) c.args.self.now.bound) stream ms (decoder_of c.args.self.now) →
    c.place.result ≡ length (flat_map g.M.Encoding.encoding ms) = λ stream ms held.
    let len = ap length held.are_messages.whole in
    let fed = held.fed_is in
    let here = c.place.ensures in
    omega (
      arith,
      len,
      fed,
      here,
      length-append (flat_map g.M.Encoding.encoding ms)
          (undecoded (decoder_of c.args.self.now)),
    ) in
    index_piece _ g.M.Roundable.round_of g.M.Tabular.row_of g.met.M.Tabular.row_is c.args.piece.now c.args.self.now _ _
    c.feed.new.visitor refl c.new.ensures.items
    start c.in_ok-feed.ensures.decoded
