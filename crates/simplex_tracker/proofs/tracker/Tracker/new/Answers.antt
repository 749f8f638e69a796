use Rattle.std.proofs.Common.{[], refl, subst}
use Rattle.simplex_evidence.specs.ActivityLaws.{activity_lawful}
use Rattle.simplex_scheme.specs.Committees.{bound_of}
use Rattle.simplex_alarm.specs.Alarm.{Sounds, nothing_told}
use Rattle.simplex_detector.specs.Detector.{Recalls}
use Rattle.simplex_rules.specs.declared.judging.Judging.TheVariants.{From, Verified}
use Rattle.simplex_tracker.proofs.tracker.Tracker.new.Goals as goal

pub returns-clause-tracks : goal.returns-clause-tracks
returns-clause-tracks g c =
    let committees = c.args.committees.now in
    let floor = c.args.floor in
    record {
      floor_is = refl;
      bound_is = c.bound.ensures.value;
      readable = activity_lawful g.D.PartialEq.eq _ _ _ g.met.D.Fixed.lawful (g.met.S.Certificate.Read.lawful _)
          g.met.S.Signature.Fixed.lawful;
      members = c.committees_are_lawful.ensures.committees Verified committees c.bound.ensures.some;
      messages = [];
      decoded = c.new.ensures.decoded (bound_of g.S.CertificateScheme.keys committees);
      recalls = subst (λ judged. Recalls judged [] c.new-detector.result) (c.floors_rise.ensures.judged committees floor)
          (c.new-detector.ensures (From floor) committees);
      sounds = subst (λ judged. Sounds judged [] nothing_told c.new-alarm.result)
          (c.floors_rise.ensures.judged committees floor) (c.new-alarm.ensures (From floor) committees);
    }
