-- How a message that was recorded moves a watcher's window.
use Rattle.std.proofs.Common.{◌≡◌, Bool, true, false, None, refl, sym, ap, subst, ◌∙◌}
use Rattle.std.specs.Option.{is_some}
use Rattle.simplex_base.specs.Positions.{Round}
use Rattle.simplex_scheme.specs.Kind.{kind_of}
use Rattle.simplex_scheme.specs.Subject.{SubjectValue, round_of}
use Rattle.simplex_scheme.specs.declared.kind.VoteKind.{VoteKind}
use Rattle.simplex_evidence.specs.Activity.{contents_of, subject_and_certificate}
use Rattle.simplex_evidence.specs.Contents.{OneCertificate, contents_certificate, contents_round}
use Rattle.simplex_evidence.specs.declared.types.activity.Activity.{Activity}
use Rattle.simplex_rules.specs.Independence.{is_from}
use Rattle.simplex_rules.specs.Splits.{if_certified}
use Rattle.simplex_audit.specs.Basis.{Basis}
use Rattle.simplex_monitor.specs.Watching.{Advances, KeepsCounts, KeepsFrom, TellsIfCertified}
use Rattle.simplex_monitor.specs.Window.{floor_of}
use Rattle.simplex_monitor.specs.declared.watcher.Watcher.{Watcher}
use Rattle.simplex_monitor.proofs.TakenLemmas.{MovesBy, unmoved, window_moved, window_stays}

module _ {S D C P G : Type 0} (basis : Basis S D C P G) (m : Activity S D C P G) where
  -- it has no certificate
  pub advances_none : (state : Watcher S D P G) → subject_and_certificate m ≡ None → Advances basis m state state
  advances_none state none = record {
    counts = record { below = refl; above = refl; holding = refl };
    window = λ start before ordered began low recalls.
        began ∙ sym (unmoved basis.rules start before m (ap (λ o. is_some (if_certified basis.rules o)) none));
    holds = λ start before taken told ordered began h. h;
  }

  module _ (x : SubjectValue D) (c : C) (held : contents_of m ≡ OneCertificate x c) (round : Round) (kind : VoteKind)
      (round_is : round ≡ round_of x) (kind_is : kind ≡ kind_of x) (old : Watcher S D P G) (told : Bool)
      (tells : TellsIfCertified basis m round kind old told) where
    -- what was told of its subject
    tells_here : TellsIfCertified basis m (round_of x) (kind_of x) old told
    tells_here = subst (λ k. TellsIfCertified basis m (round_of x) k old told) kind_is
        (subst (λ r. TellsIfCertified basis m r kind old told) round_is tells)

    -- no subject of its round and kind is certified
    pub advances_not : told ≡ false → Advances basis m old old
    advances_not fails = record {
      counts = record { below = refl; above = refl; holding = refl };
      window = λ start before ordered began low recalls.
          began ∙ sym (window_stays basis.rules (is_from (floor_of old.window)) start before m x c
          (ap contents_certificate held)
          (sym (ap (λ h. is_from (floor_of old.window) (contents_round h)) held) ∙ low.1)
          (subst (λ t. TellsIfCertified basis m (round_of x) (kind_of x) old t) fails tells_here before recalls));
      holds = λ start before taken all ordered began h. h;
    }

    -- one is certified
    pub advances_by : (new : Watcher S D P G) → told ≡ true → MovesBy round kind old.window new.window → KeepsCounts old new →
        KeepsFrom basis old new → Advances basis m old new
    advances_by new right moves counts holds = record {
      counts = counts;
      window = λ start before ordered began low recalls.
          window_moved basis.rules (is_from (floor_of old.window)) start before m x c (ap contents_certificate held)
          old.window new.window ordered began
          (subst (λ k. MovesBy (round_of x) k old.window new.window) kind_is
          (subst (λ r. MovesBy r kind old.window new.window) round_is moves))
          (subst (λ t. TellsIfCertified basis m (round_of x) (kind_of x) old t) right tells_here before recalls);
      holds = holds;
    }
