use Rattle.std.proofs.Common.{ap, false, true, subst, sym, ◌∙◌}
use Rattle.std.proofs.lemmas.Bool.{and_from, and_left, and_right}
use Rattle.std.specs.Option.{IsSome, is_none, is_some, option_map}
use Rattle.simplex_scheme.specs.Kind.{kind_of}
use Rattle.simplex_scheme.specs.Subject.{subject_value}
use Rattle.simplex_ballots.specs.Ballots.{vote_of}
use Rattle.simplex_ballots.specs.Index.{place_of, placed_at}
use Rattle.simplex_ballots.specs.Rounds.{ballot_at, vote_at}
use Rattle.simplex_rules.specs.Recorded.{changes}
use Rattle.simplex_ballots.proofs.BallotLemmas.{first_vote, not_none, some_place}
use Rattle.simplex_ballots.proofs.round_votes.RoundVotes.news.Goals as goal

-- the first vote is not apart
pub returns-then-not-is_apart : goal.returns-then-not-is_apart
returns-then-not-is_apart g c n sized =
    let x = subject_value c.args.subject.now in
    let index = c.args.self.now.index in
    let there = ap (λ kind. option_map place_of (placed_at index c.args.signer kind false)) (sym c.kind-kind.ensures)
    ∙ c.in-Ok.ensures.found in
    let (first, (at, is)) = first_vote g.D.PartialEq.eq c.args.self.now n sized c.args.signer (kind_of x) x c.in-Ok.place
    c.is_apart.result there c.is_apart.ensures in (
      sym (ap (λ o. changes g.D.PartialEq.eq o (vote_at c.args.self.now c.args.signer (kind_of x) true) x) at
          ∙ and_left _ _ (sym is ∙ c.if-not-is_apart.true)),
      tt,
    )

-- there is another vote already
pub returns-in-Ok-find : goal.returns-in-Ok-find
returns-in-Ok-find g c n sized =
    let x = subject_value c.args.subject.now in
    let index = c.args.self.now.index in
    let there = ap (λ kind. option_map place_of (placed_at index c.args.signer kind false)) (sym c.kind-kind.ensures)
    ∙ c.in-Ok.ensures.found in
    let (first, (at, is)) = first_vote g.D.PartialEq.eq c.args.self.now n sized c.args.signer (kind_of x) x c.in-Ok.place
    c.is_apart.result there c.is_apart.ensures in
    let other = sized.whole c.args.signer (kind_of x) true
    (subst (λ kind. IsSome (placed_at index c.args.signer kind true)) c.kind-kind.ensures
    (some_place _ _ c.in-Ok-find.ensures.found)) in (
      sym (ap (λ o. changes g.D.PartialEq.eq o (vote_at c.args.self.now c.args.signer (kind_of x) true) x) at
          ∙ and_right _ _ (not_none _ other)),
      tt,
    )

-- there is none
pub returns-in-Err-find : goal.returns-in-Err-find
returns-in-Err-find g c n sized =
    let x = subject_value c.args.subject.now in
    let index = c.args.self.now.index in
    let there = ap (λ kind. option_map place_of (placed_at index c.args.signer kind false)) (sym c.kind-kind.ensures)
    ∙ c.in-Ok.ensures.found in
    let (first, (at, is)) = first_vote g.D.PartialEq.eq c.args.self.now n sized c.args.signer (kind_of x) x c.in-Ok.place
    c.is_apart.result there c.is_apart.ensures in
    let none = ap (λ o. is_none (vote_of c.args.self.now.round c.args.signer (kind_of x)
    (ballot_at c.args.self.now.ballots o)))
    (ap (λ kind. placed_at index c.args.signer kind true) (sym c.kind-kind.ensures) ∙ c.in-Err-find.ensures.none) in (
      sym (ap (λ o. changes g.D.PartialEq.eq o (vote_at c.args.self.now c.args.signer (kind_of x) true) x) at
          ∙ and_from _ _ (sym is ∙ c.if-not-is_apart.false) none),
      sym (ap is_some at),
    )
