use Rattle.std.proofs.Common.{◌≡◌, ℕ, List, Ok, length, ap, arith, length-append, subst}
use Rattle.simplex_base.specs.Format.{Encoded}
use Rattle.simplex_ffi.proofs.front.read_front.Given as given
use Rattle.simplex_ffi.proofs.front.read_front.Goals as goal

-- the message is at the front of the bytes
front : (g : given.Over) (c : goal.In-Ok g) →
    Encoded (g.M.Read.fits c.args.cfg.now) g.M.Encoding.encoding c.args.bytes.now c.in-Ok.message c.read_cfg.new.input.now
front g c =
    (g.met.M.Read.lawful c.args.cfg.now).takes c.args.bytes.now c.in-Ok.message c.read_cfg.new.input.now
    c.known_bytes-rest.ensures.range
    (subst (λ (bytes : List ℕ). g.M.Read.reading c.args.cfg.now bytes ≡ Ok (c.in-Ok.message, c.read_cfg.new.input.now))
    c.known_bytes-rest.ensures.same c.in-Ok.ensures)

pub overflow_sub-result : goal.overflow_sub-result
overflow_sub-result g c =
    omega (
      arith,
      ap length (front g c).parts,
      length-append (g.M.Encoding.encoding c.in-Ok.message) c.read_cfg.new.input.now,
    )

pub returns-in-Ok-clause-front : goal.returns-in-Ok-clause-front
returns-in-Ok-clause-front g c = (
  c.read_cfg.new.input.now,
  front g c,
  omega (
    arith,
    ap length (front g c).parts,
    length-append (g.M.Encoding.encoding c.in-Ok.message) c.read_cfg.new.input.now,
  ),
)
