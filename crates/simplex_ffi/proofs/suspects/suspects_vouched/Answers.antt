use Rattle.simplex_ffi.proofs.suspects.suspects_vouched.Goals as goal

-- a signature has a byte less than what is signed with its verdict
pub returns-in-Ok-Some-clause-given : goal.returns-in-Ok-Some-clause-given
returns-in-Ok-Some-clause-given g c = λ listed given. (
  _,
  rw (c.in-Ok-Some.field-0-is) at c.in-Ok-Some.ensures.some,
  rw (c.saturating_sub-size.ensures) at
      (c.give.ensures.given given),
)
