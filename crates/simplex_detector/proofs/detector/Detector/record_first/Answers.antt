use Rattle.simplex_rules.proofs.Prelude.{ap, length, scheme_of, scheme_under, subst, ◌∙◌, Scheme}
use Rattle.simplex_rules.specs.declared.judging.Judging.{Judging}
use Rattle.simplex_ballots.specs.Rounds.{IsSized}
use Rattle.simplex_evidence.specs.Activity.{contents_of}
use Rattle.simplex_rules.proofs.MessageLemmas.{votes_here}
use Rattle.simplex_detector.proofs.FirstLemmas.{first_is_inserted, first_is_left_out}
use Rattle.simplex_detector.proofs.detector.Detector.record_first.Given as given
use Rattle.simplex_detector.proofs.detector.Detector.record_first.Goals as goal

abbrev scheme : (g : given.Over) → Judging →
    Scheme g.row.S.Denot g.row.D.Denot g.row.S-Certificate.Denot g.row.S-PublicKey.Denot g.row.S-Signature.Denot
scheme g =
    scheme_under (scheme_of g.D.PartialEq.eq g.S.CertificateScheme.keys g.S.Scheme.good
    g.S.CertificateVerifier.certified g.S.Listing.listed)

-- something is recorded now
pub returns-in_ok-insert : goal.returns-in_ok-insert
returns-in_ok-insert g c = λ m is conflict at.
    let sized = subst (λ n. IsSized n c.new-round_state.result.votes)
    (c.len-participants.ensures ∙ ap length c.participants.ensures.keys) c.new-round_state.ensures.sized in
    first_is_inserted (scheme g c.args.judge.now.judging.now) g.met.D.Eq.laws c.args.judge.now.committee.now m
    (votes_here g.D.PartialEq.eq g.S.Listing.listed (contents_of m) conflict) c.in_ok-news.news c.args.self.now.rounds
    c.args.round at c.requires c.new-round_state.result c.observe.new.self sized c.new-round_state.ensures.round
    c.new-round_state.ensures.empty c.new-round_state.ensures.none c.new-round_state.ensures.certified c.args.apart.now
    c.observe.new.apart ((rw is at c.in_ok-news.ensures.takes) conflict) (rw is at c.in_ok-news.ensures.gathers)
    c.insert.new.self c.in_ok-insert.ensures.inserted

-- nothing is recorded still
pub returns-else-not-is_empty : goal.returns-else-not-is_empty
returns-else-not-is_empty g c = λ m is conflict at.
    let sized = subst (λ n. IsSized n c.new-round_state.result.votes)
    (c.len-participants.ensures ∙ ap length c.participants.ensures.keys) c.new-round_state.ensures.sized in
    let empty = c.if-not-is_empty.false in
    first_is_left_out (scheme g c.args.judge.now.judging.now) g.met.D.Eq.laws c.args.judge.now.committee.now m
    (votes_here g.D.PartialEq.eq g.S.Listing.listed (contents_of m) conflict) c.in_ok-news.news c.args.self.now.rounds
    c.args.round at c.requires c.new-round_state.result c.observe.new.self sized c.new-round_state.ensures.round
    c.new-round_state.ensures.empty c.new-round_state.ensures.none c.new-round_state.ensures.certified c.args.apart.now
    c.observe.new.apart ((rw is at c.in_ok-news.ensures.takes) conflict) (rw is at c.in_ok-news.ensures.gathers)
    (c.is_empty.ensures.votes empty) (c.is_empty.ensures.certified empty)
