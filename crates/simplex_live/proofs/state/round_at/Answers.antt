use Rattle.std.proofs.Common.{arith, ◌≡◌, ◌∙◌, ap, take, drop, sym, ◌+◌}
use Rattle.std.proofs.Math.Seq.{take-add}
use Rattle.simplex_live.specs.State.{number_bytes}
use Rattle.simplex_cli.specs.OptionLaws.{drop_twice}
use Rattle.simplex_live.proofs.state.round_at.Goals as goal

pub returns : goal.returns
returns c fits =
    let xs = drop c.args.place c.args.bytes.now in
    let behind : c.saturating_add.result ≡ c.args.place + 8 = grind (arith, c.saturating_add.ensures, fits) in
    let epoch : number_bytes c.number_at-epoch.result ≡ take 8 xs = c.number_at-epoch.ensures (omega (arith, fits)) in
    let view : number_bytes c.number_at-view.result ≡ take 8 (drop 8 xs) =
    c.number_at-view.ensures (omega (arith, fits, behind))
    ∙ (rw (behind) (ap (take 8) (sym (drop_twice c.args.place 8 c.args.bytes.now)))) in
    grind (arith, c.new-3.ensures, c.new.ensures, c.new-2.ensures, epoch, view, take-add 8 8 xs)
