use Rattle.simplex_rules.proofs.Prelude.{IfOk-weaker, on_ok_weaker, IsSome, Some, activity_round, ap, committee_of, is_key, refl, round_cmp, subst, sym, ◌∙◌, Scheme, scheme_of, scheme_under, rules_of}
use Rattle.simplex_rules.specs.declared.judging.Judging.{Judging}
use Rattle.simplex_detector.specs.Detector.{RecallsAt}
use Rattle.simplex_detector.specs.RoundMap.{get}
use Rattle.std.specs.Map.{set_value}
use Rattle.simplex_evidence.specs.Activity.{contents_of}
use Rattle.simplex_evidence.specs.Contents.{contents_round}
use Rattle.simplex_detector.proofs.DetectorLemmas.{news_taken, no_news_no_committee, recalls_changed, recalls_taken, recalls_no_committee}
use Rattle.simplex_rules.proofs.MessageLemmas.{votes_here}
use Rattle.simplex_detector.proofs.GatherLemmas.{gathered_taken, none_gathered}
use Rattle.simplex_detector.proofs.RoundMapLemmas.{set_updates}
use Rattle.simplex_detector.proofs.detector.Detector.record.Given as given
use Rattle.simplex_detector.proofs.detector.Detector.record.Goals as goal

abbrev scheme : (g : given.Over) → Judging →
    Scheme g.row.S.Denot g.row.D.Denot g.row.S-Certificate.Denot g.row.S-PublicKey.Denot g.row.S-Signature.Denot
scheme g =
    scheme_under (scheme_of g.D.PartialEq.eq g.S.CertificateScheme.keys g.S.Scheme.good
    g.S.CertificateVerifier.certified g.S.Listing.listed)

-- the message's epoch has no committee
pub returns-in_default : goal.returns-in_default
returns-in_default g c =
    let none = c.in_default.ensures ∙ ap (committee_of c.args.committees.now)
    (c.epoch.ensures ∙ ap (λ r. r.epoch) (c.round-round.ensures ∙ ap contents_round c.contents-contents.ensures.value)) in
    let here = votes_here g.D.PartialEq.eq g.S.Listing.listed (contents_of c.args.message.now)
    c.contents-contents.ensures.conflict in
    record {
      records = λ messages holds round. recalls_no_committee (scheme g c.args.judging.now) c.args.committees.now messages
          c.args.message.now here none round (get round_cmp c.args.self.now.rounds round) (holds round);
      news = λ messages holds. sym (no_news_no_committee (scheme g c.args.judging.now) c.args.committees.now messages
          c.args.message.now here none);
      gathers = λ messages holds. none_gathered (scheme g c.args.judging.now) c.args.committees.now messages
          c.args.message.now here none c.args.apart.now;
    }

-- something was recorded of its round
pub returns-in-Some-get_mut : goal.returns-in-Some-get_mut
returns-in-Some-get_mut g c =
    let all = rules_of (scheme g c.args.judging.now) c.args.committees.now in
    let m = c.args.message.now in
    let at = c.round-round.ensures ∙ ap contents_round c.contents-contents.ensures.value in
    let judge = sym (c.in-Some.ensures ∙ ap (committee_of c.args.committees.now) (c.epoch.ensures ∙ ap (λ r. r.epoch) at)) in
    let found = c.in-Some-get_mut.ensures.value in
    let after = c.observe.new.self in
    let takes = (rw c.contents-contents.ensures.value at c.observe.ensures.takes) c.contents-contents.ensures.conflict in
    record {
      records = IfOk-weaker c.observe.result _ _ (λ news taken messages holds.
          let before = subst (RecallsAt all messages (activity_round m))
          (sym (found ∙ ap (get round_cmp c.args.self.now.rounds) at)) (holds (activity_round m)) in
          let own = recalls_taken (scheme g c.args.judging.now) c.args.committees.now messages m c.in-Some.committee.now judge
          news c.in-Some-get_mut.round_state.now after taken before in
          recalls_changed all g.met.D.Eq.laws messages m (votes_here g.D.PartialEq.eq g.S.Listing.listed
          (contents_of c.args.message.now) c.contents-contents.ensures.conflict) c.round-round.result at (Some after)
          c.args.self.now.rounds
          (set_value (is_key (round_cmp c.round-round.result)) c.args.self.now.rounds after)
          (set_updates c.args.self.now.rounds c.round-round.result after (subst IsSome found refl)) own holds) takes;
      news = IfOk-weaker c.observe.result _ _ (λ news taken messages holds.
          let before = subst (RecallsAt all messages (activity_round m))
          (sym (found ∙ ap (get round_cmp c.args.self.now.rounds) at)) (holds (activity_round m)) in
          news_taken (scheme g c.args.judging.now) c.args.committees.now messages m c.in-Some.committee.now judge
          news c.in-Some-get_mut.round_state.now after taken before) takes;
      gathers = on_ok_weaker c.observe.result (λ gathers messages holds.
          let before = subst (RecallsAt all messages (activity_round m))
          (sym (found ∙ ap (get round_cmp c.args.self.now.rounds) at)) (holds (activity_round m)) in
          gathered_taken (scheme g c.args.judging.now) c.args.committees.now messages m c.in-Some.committee.now judge
          c.in-Some-get_mut.round_state.now c.args.apart.now c.observe.new.apart gathers before)
          (rw c.contents-contents.ensures.value at c.observe.ensures.gathers);
    }

-- nothing was
pub returns : goal.returns
returns g c =
    let at = c.round-round.ensures ∙ ap contents_round c.contents-contents.ensures.value in
    let judge = sym (c.in-Some.ensures ∙ ap (committee_of c.args.committees.now) (c.epoch.ensures ∙ ap (λ r. r.epoch) at)) in
    let m = c.args.message.now in
    let value = c.contents-contents.ensures.value in
    let conflict = c.contents-contents.ensures.conflict in
    let schedule = c.args.committees.now in record {
      records = IfOk-weaker c.record_first.result _ _
          (λ news first. (first m value conflict at).records schedule judge) c.record_first.ensures;
      news = IfOk-weaker c.record_first.result _ _
          (λ news first. (first m value conflict at).tells schedule judge) c.record_first.ensures;
      gathers = IfOk-weaker c.record_first.result _ _
          (λ news first. (first m value conflict at).gathers schedule judge) c.record_first.ensures;
    }
