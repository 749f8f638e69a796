use Rattle.simplex_ballots.specs.Rounds.{HoldsRound}
use Rattle.simplex_rules.proofs.Prelude.{and_from, and_left, and_right, false≢true, is_news, length, round_of, subject_value, sym, vote_on, ◌∙◌}
use Rattle.simplex_rules.proofs.Lists.{if_appended}
use Rattle.simplex_rules.proofs.RecordedLemmas.{have_news-one}
use Rattle.simplex_ballots.proofs.HeldLemmas.{held_no_news, held_after, news_held}
use Rattle.simplex_ballots.proofs.round_votes.RoundVotes.observe.Goals as goal

-- a vote that is no news changes nothing
pub returns-in_default : goal.returns-in_default
returns-in_default g c known =
    let x = subject_value c.args.subject.now in
    let v = vote_on x c.args.attestation.now in
    let eq = g.D.PartialEq.eq in
    record {
      held = λ vs holds. if_appended
          (λ ws. HoldsRound eq (length (g.S.CertificateScheme.keys c.args.judge.now.committee.now)) ws (round_of x)
          c.args.self.now) vs v _ (λ bad. holds)
          (λ good. held_no_news eq g.met.D.Eq.laws _ vs v c.args.self.now holds (sym (c.in_default.ensures _ holds.sized).0));
      tells = λ vs holds. sym (have_news-one eq vs v _
          ∙ and_right _ (is_news eq vs v) (sym (news_held eq g.met.D.Eq.laws _ vs v c.args.self.now holds)
          ∙ sym (c.in_default.ensures _ holds.sized).0));
    }

-- nor does one that is not valid
pub returns-then-not-accepts : goal.returns-then-not-accepts
returns-then-not-accepts g c known =
    let x = subject_value c.args.subject.now in
    let v = vote_on x c.args.attestation.now in
    let eq = g.D.PartialEq.eq in
    let bad = sym (c.accepts.ensures known) ∙ c.if-not-accepts.true in
    record {
      held = λ vs holds. if_appended
          (λ ws. HoldsRound eq (length (g.S.CertificateScheme.keys c.args.judge.now.committee.now)) ws (round_of x)
          c.args.self.now) vs v _ (λ _. holds) (λ good. absurd (false≢true (sym bad ∙ good)));
      tells = λ vs holds. sym (have_news-one eq vs v _ ∙ and_left _ (is_news eq vs v) bad);
    }

-- a valid vote is recorded
pub returns : goal.returns
returns g c known =
    let x = subject_value c.args.subject.now in
    let v = vote_on x c.args.attestation.now in
    let eq = g.D.PartialEq.eq in
    let good = sym (c.accepts.ensures known) ∙ c.if-not-accepts.false in
    let size = length (g.S.CertificateScheme.keys c.args.judge.now.committee.now) in
    record {
      held = λ vs holds. if_appended (λ ws. HoldsRound eq size ws (round_of x) c.add.new.self) vs v _
          (λ bad. absurd (false≢true (sym bad ∙ good)))
          (λ _. let told = c.in-Some.ensures size holds.sized in held_after eq g.met.D.Eq.laws size vs v c.args.self.now holds
          c.add.new.self (sym told.0) (c.in_ok-add.ensures told.1));
      tells = λ vs holds. sym (have_news-one eq vs v _
          ∙ and_from _ _ good (sym (news_held eq g.met.D.Eq.laws _ vs v c.args.self.now holds)
          ∙ sym (c.in-Some.ensures size holds.sized).0));
    }
