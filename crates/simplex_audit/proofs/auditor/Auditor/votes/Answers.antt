use Rattle.std.proofs.Common.{Bool, ◌≡◌, ℕ, ◌<◌, ◌≤◌, ◌-◌, ◌^◌, List, ◌++◌, length, ap, subst, ◌∙◌, arith, length-append}
use Rattle.std.specs.Prelude.{min}
use Rattle.simplex_base.specs.Positions.{Round}
use Rattle.simplex_evidence.specs.declared.types.activity.Activity.{Activity}
use Rattle.simplex_scheme.specs.Committees.{Schedule}
use Rattle.simplex_detector.specs.Detector.{Recalls}
use Rattle.simplex_rules.specs.Independence.{first_round, in_rounds, is_from}
use Rattle.simplex_rules.specs.Recorded.{votes_recorded}
use Rattle.simplex_rules.specs.Rules.{Rules, valid_votes}
use Rattle.simplex_rules.specs.Scheme.{rules_of, scheme_of}
use Rattle.simplex_detector.specs.declared.detector.Detector.{Detector}
use Rattle.simplex_rules.specs.declared.judging.Judging.TheVariants.{From}
use Rattle.simplex_audit.specs.Auditor.{StandsFrom}
use Rattle.simplex_audit.specs.Basis.{Basis, basis_from}
use Rattle.simplex_stream.specs.Messages.{AreMessages}
use Rattle.simplex_stream.specs.Decoder.{undecoded}
use Rattle.simplex_audit.specs.declared.auditor.Auditor.{Auditor}
use Rattle.simplex_stream.specs.StreamLaws.{messages_once}
use Rattle.simplex_audit.proofs.auditor.Auditor.votes.Given as given
use Rattle.simplex_audit.proofs.auditor.Auditor.votes.Goals as goal

-- the state is that of the messages of each stream that the auditor stands for
stands_recalls : {S D C P G : Type 0} (floor : Round) (basis : Schedule S → Basis S D C P G) (committees : Schedule S)
    (auditor : Auditor S D P G) (stream rest : List ℕ) (messages : List (Activity S D C P G)) →
    StandsFrom floor basis committees auditor stream → AreMessages (basis committees).format stream messages rest →
    Recalls (basis_from floor (basis committees)).rules messages auditor.detector
stands_recalls floor basis committees auditor stream rest messages stands are =
    subst (λ ms. Recalls (basis_from floor (basis committees)).rules ms auditor.detector)
    (messages_once (basis committees).format stands.readable stream (undecoded auditor.decoder) rest
    stands.messages messages stands.decoded.are_messages are).0
    stands.recorded

-- a number that stops at 2^64 - 1 does not stop where it is at most a number of bytes
not_stopped : (number recorded fed : ℕ) (stream front rest : List ℕ) → stream ≡ front ++ rest → fed ≡ length stream →
    fed < 2 ^ 64 → recorded ≤ length front → number ≡ min recorded (2 ^ 64 - 1) → number ≡ recorded
not_stopped number recorded fed stream front rest whole is few room stops =
    let len = ap length whole in omega (arith, length-append front rest)

-- what a number counts under some rules it counts under rules that are the same
counts_same : {S D C P G : Type 0} (rules judged : Rules S D C P G) (messages : List (Activity S D C P G))
    (detector : Detector S D P G) (number : ℕ) → rules ≡ judged →
    (Recalls rules messages detector → number ≡ min (votes_recorded rules.eq (valid_votes rules messages)) (2 ^ 64 - 1)) →
    Recalls judged messages detector → number ≡ min (votes_recorded judged.eq (valid_votes judged messages)) (2 ^ 64 - 1)
counts_same rules judged messages detector number same counts =
    subst (λ r. Recalls r messages detector → number ≡ min (votes_recorded r.eq (valid_votes r messages)) (2 ^ 64 - 1))
    same counts

-- a number of recorded votes under some rules is their number under rules that are the same
same_number : {S D C P G : Type 0} (eq : D → D → Bool) (rules judged : Rules S D C P G) (messages : List (Activity S D C P G))
    (stopped : ℕ → ℕ) (number : ℕ) → rules ≡ judged → number ≡ stopped (votes_recorded eq (valid_votes rules messages)) →
    number ≡ stopped (votes_recorded eq (valid_votes judged messages))
same_number eq rules judged messages stopped number same is =
    subst (λ r. number ≡ stopped (votes_recorded eq (valid_votes r messages))) same is

-- the rules by which messages are judged
abbrev rules : (g : given.Over) → Schedule g.row.S.Denot → Rules g.row.S.Denot g.row.D.Denot
    g.row.S-Certificate.Denot g.row.S-PublicKey.Denot g.row.S-Signature.Denot
rules g schedule = rules_of (scheme_of g.D.PartialEq.eq g.S.CertificateScheme.keys g.S.Scheme.good
    g.S.CertificateVerifier.certified g.S.Listing.listed) schedule

pub returns-clause-number_from : goal.returns-clause-number_from
returns-clause-number_from g c = λ floor committees stream messages rest stands are.
    let auditor = c.args.self.now in
    counts_same _ _ messages auditor.detector _ (c.floors_rise.ensures.judged committees floor)
    (c.votes.ensures (From floor) committees messages)
    (stands_recalls floor _ committees auditor stream rest messages stands are)

pub returns-clause-exact_from : goal.returns-clause-exact_from
returns-clause-exact_from g c = λ room floor committees stream messages rest stands are.
    not_stopped _ _ _ stream _ rest are.whole (c.fed.ensures ∙ stands.decoded.fed_is)
    c.counts_are_few.ensures
    (c.recorded_votes_have_room.ensures (in_rounds (is_from floor) (rules g committees)) room messages)
    (returns-clause-number_from g c floor committees stream messages rest stands are)

pub returns-clause-number : goal.returns-clause-number
returns-clause-number g c = λ committees stream messages rest stands are.
    same_number g.D.PartialEq.eq _ (rules g committees) messages (λ n. min n (2 ^ 64 - 1)) c.votes.result
    (c.floors_rise.ensures.rise (rules g committees)).first
    (returns-clause-number_from g c first_round committees stream messages rest stands are)

pub returns-clause-exact : goal.returns-clause-exact
returns-clause-exact g c = λ room committees stream messages rest stands are.
    same_number g.D.PartialEq.eq _ (rules g committees) messages (λ n. n) c.votes.result
    (c.floors_rise.ensures.rise (rules g committees)).first
    (returns-clause-exact_from g c room first_round committees stream messages rest stands are)
