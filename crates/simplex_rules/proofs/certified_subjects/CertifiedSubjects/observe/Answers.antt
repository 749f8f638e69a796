use Rattle.simplex_rules.proofs.Prelude.{ap, true, refl, RecordsFirsts, and_from, and_left, and_right, false≢true, round_of, subject_value, sym, ◌∙◌}
use Rattle.simplex_rules.proofs.CommitteeLemmas.{known_if}
use Rattle.simplex_rules.proofs.Lists.{if_appended}
use Rattle.simplex_rules.proofs.SplitLemmas.{records_push, records_no_news}
use Rattle.simplex_rules.proofs.Places.{same_round-from}
use Rattle.simplex_rules.proofs.certified_subjects.CertifiedSubjects.observe.Goals as goal

-- the subject would change nothing
pub returns-then-not-is_news-clause-records : goal.returns-then-not-is_news-clause-records
returns-then-not-is_news-clause-records g c valid subjects records =
    let y = subject_value c.args.subject.now in
    if_appended (λ xs. RecordsFirsts g.D.PartialEq.eq xs (round_of y) c.args.self.now) subjects y _ (λ no. records)
    (λ certifies. records_no_news g.D.PartialEq.eq g.met.D.Eq.laws subjects y (round_of y) c.args.self.now
    (same_round-from (round_of y) (round_of y) refl) (sym c.is_news.ensures ∙ c.if-not-is_news.true) records)

-- the certificate does not certify it
pub returns-then-not-certifies-clause-records : goal.returns-then-not-certifies-clause-records
returns-then-not-certifies-clause-records g c valid subjects records =
    let y = subject_value c.args.subject.now in
    if_appended (λ xs. RecordsFirsts g.D.PartialEq.eq xs (round_of y) c.args.self.now) subjects y _ (λ no. records)
    (λ certifies. absurd (false≢true (sym c.if-not-certifies.true ∙ c.certifies.ensures valid ∙ certifies)))

-- the subject is recorded
pub returns-clause-records : goal.returns-clause-records
returns-clause-records g c valid subjects records =
    let y = subject_value c.args.subject.now in
    rw (sym (c.certifies.ensures valid) ∙ c.if-not-certifies.false)
    (records_push g.D.PartialEq.eq g.met.D.Eq.laws subjects y (round_of y) c.args.self.now c.set_first.new.self true
    (same_round-from (round_of y) (round_of y) refl) (λ whole. c.set_first.ensures.firsts) c.set_first.ensures.split records)

pub returns-then-not-is_news-clause-verified : goal.returns-then-not-is_news-clause-verified
returns-then-not-is_news-clause-verified g c valid =
    ap known_if (sym (and_left _ _ (sym c.is_news.ensures ∙ c.if-not-is_news.true)))

pub returns-then-not-certifies-clause-verified : goal.returns-then-not-certifies-clause-verified
returns-then-not-certifies-clause-verified g c valid =
    ap known_if (sym (and_right _ _ (sym (c.certifies.ensures valid) ∙ c.if-not-certifies.true)))

pub returns-clause-verified : goal.returns-clause-verified
returns-clause-verified g c valid =
    ap known_if (sym (and_from _ _ (sym c.is_news.ensures ∙ c.if-not-is_news.false)
    (sym (c.certifies.ensures valid) ∙ c.if-not-certifies.false)))
