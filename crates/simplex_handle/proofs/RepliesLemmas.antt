-- What a call does to an auditor, said of one whose signatures have some size or which has keys, and of the one in a handle.
use Rattle.std.proofs.Common.{◌≡◌, ℕ, true, List, Option, Some, None, inl, inr, length, ap, sym, subst, arith}
use Rattle.std.specs.Int.{from_bool}
use Rattle.std.specs.Prelude.{◌⊎◌, IfSome}
use Rattle.simplex_base.specs.Positions.{Round}
use Rattle.simplex_scheme.specs.Committees.{Schedule}
use Rattle.simplex_schemes.specs.Plain.{PlainScheme}
use Rattle.simplex_schemes.specs.Vouched.{VouchedScheme}
use Rattle.simplex_evidence.specs.declared.types.activity.Activity.{Activity}
use Rattle.simplex_alarm.specs.declared.alarm.News.{News}
use Rattle.simplex_stream.specs.declared.fault.Fault.{Fault}
use Rattle.simplex_audit.specs.Basis.{Basis}
use Rattle.simplex_places.specs.Pieces.{IsPiece}
use Rattle.simplex_places.specs.declared.pieces.Piece.{Piece}
use Rattle.simplex_places.specs.declared.places.Placed.{Placed}
use Rattle.simplex_places.specs.declared.repeats.Unverified.{Unverified}
use Rattle.simplex_border.specs.Answer.{IsPut, ended_of}
use Rattle.simplex_tracker.specs.Live.{Follows, WaitSame}
use Rattle.simplex_tracker.specs.Tracking.{EndsWhole}
use Rattle.simplex_tracker.specs.declared.live.LiveAuditor.{LiveAuditor}
use Rattle.simplex_handle.specs.Held.{Held}
use Rattle.simplex_handle.specs.Owned.{InHandle}
use Rattle.simplex_handle.specs.Replies.{IsPieceGiven, Stays}
use Rattle.simplex_handle.specs.Roster.{Bases, Of48, Of64, Of96, OfKeys, Roster}
use Rattle.simplex_handle.specs.Standing.{Between, Following, Live, Pruning, Relation}
use Rattle.simplex_handle.specs.declared.auditor.AnyAuditor.{AnyAuditor}
use Rattle.simplex_handle.specs.declared.auditor.AnyAuditor.TheVariants.{Keyed, Vouched48, Vouched64, Vouched96}

-- what is said of an option that is some
pub at_some : {A : Type 0} (P : A → Type 0) (o : Option A) (a : A) → o ≡ Some a → IfSome o P → P a
at_some P o a is h = subst (λ o. IfSome o P) is h

-- ---- an auditor of any scheme

-- what waits is as before
pub waits : {S D P G : Type 0} (old new : News S D P G) → new ≡ old → WaitSame old new
waits old new same =
    record { evidence = ap (λ n. n.evidence.items) same; splits = ap (λ n. n.splits.items) same }

-- it follows the stream as before, and what waits is as before
pub stays : {S D C P G : Type 0} (basis : Schedule S → Basis S D C P G) (old new : LiveAuditor S D P G) →
    new.news ≡ old.news → (floor : Round) (committees : Schedule S) (stream : List ℕ) →
    Follows floor basis committees stream new → Stays floor basis committees stream old new
stays basis old new same floor committees stream follows =
    record { follows = follows; waits = waits old.news new.news same }

-- what has to be verified of a piece is given, under the floor and the committees of an auditor
pub piece_given : {S D C P G : Type 0} (basis : Schedule S → Basis S D C P G) (places_in : ℕ → Activity S D C P G → List Placed)
    (size : ℕ) (bytes : List ℕ) (before after : List Unverified) (needed whole status : ℕ) (piece : Piece) (f : Round)
    (some : Schedule S) (live : LiveAuditor S D P G) (floor : Round) (committees : Schedule S) (stream : List ℕ) →
    Follows floor basis committees stream live → f ≡ floor → some ≡ committees → EndsWhole (basis committees) stream true →
    IsPiece f (basis some) places_in size bytes piece → needed ≡ length piece.unverified.items → whole ≡ piece.whole →
    IsPut piece.unverified.items before after status (from_bool piece.over) →
    IsPieceGiven floor (basis committees) places_in size stream bytes before after needed whole status
piece_given {S} basis places_in size bytes before after needed whole status piece f some live floor committees stream h floor_is
    committees_are begins is count length put = record {
      begins = begins;
      piece = piece;
      piece_is = subst (λ (r : Round). IsPiece r (basis committees) places_in size bytes piece) floor_is
          (subst (λ (c : Schedule S). IsPiece f (basis c) places_in size bytes piece) committees_are is);
      needed_is = count;
      whole_is = length;
      records_are = put;
    }

-- none of these statuses is 2
pub not_two : (status : ℕ) → (status ≡ 0) ⊎ (status ≡ 1) ⊎ (status ≡ 3) ⊎ (status ≡ 4) → status ≡ 2 → ⊥
not_two status (inl is) two = omega (arith, is, two)
not_two status (inr (inl is)) two = omega (arith, is, two)
not_two status (inr (inr (inl is))) two = omega (arith, is, two)
not_two status (inr (inr (inr is))) two = omega (arith, is, two)

-- what the status is of a text that is put
pub put_status : (text before after : List ℕ) (fault : Option Fault) (status : ℕ) →
    IsPut text before after status (ended_of fault) → (status ≡ 0) ⊎ (status ≡ 1) ⊎ (status ≡ 3) ⊎ (status ≡ 4)
put_status text before after None status (inl (fits, is, there)) = inl is
put_status text before after (Some fault) status (inl (fits, is, there)) = inr (inl is)
put_status text before after fault status (inr (short, is, kept)) = inr (inr (inr is))

-- ---- an auditor of one of the kinds

module _ (bases : Bases) (Q : Roster → Relation) (floor : Round) (stream : List ℕ) where
  abbrev Goes : AnyAuditor → AnyAuditor → Type 0
  Goes old new =
      (roster : Roster) → Between bases (Following floor stream) roster old old → Between bases (Q roster) roster old new

  goes_from : (any old new : AnyAuditor) → any ≡ old → Goes old new → Goes any new
  goes_from any old new is = subst (λ (a : AnyAuditor). Goes a new) (sym is)

  of_48 : (old new : Live VouchedScheme) →
      ((committees : Schedule VouchedScheme) → Follows floor bases.of_48 committees stream old →
      Q (Of48 committees) VouchedScheme bases.of_48 committees old new) → Goes (Vouched48 old) (Vouched48 new)
  of_48 old new goes (Of48 committees) h = goes committees h
  of_48 old new goes (Of64 committees) h = absurd h
  of_48 old new goes (Of96 committees) h = absurd h
  of_48 old new goes (OfKeys committees) h = absurd h

  pub goes_48 : (any : AnyAuditor) (old new : Live VouchedScheme) → any ≡ Vouched48 old →
      ((committees : Schedule VouchedScheme) → Follows floor bases.of_48 committees stream old →
      Q (Of48 committees) VouchedScheme bases.of_48 committees old new) → Goes any (Vouched48 new)
  goes_48 any old new is goes = goes_from any (Vouched48 old) (Vouched48 new) is (of_48 old new goes)

  of_64 : (old new : Live VouchedScheme) →
      ((committees : Schedule VouchedScheme) → Follows floor bases.of_64 committees stream old →
      Q (Of64 committees) VouchedScheme bases.of_64 committees old new) → Goes (Vouched64 old) (Vouched64 new)
  of_64 old new goes (Of48 committees) h = absurd h
  of_64 old new goes (Of64 committees) h = goes committees h
  of_64 old new goes (Of96 committees) h = absurd h
  of_64 old new goes (OfKeys committees) h = absurd h

  pub goes_64 : (any : AnyAuditor) (old new : Live VouchedScheme) → any ≡ Vouched64 old →
      ((committees : Schedule VouchedScheme) → Follows floor bases.of_64 committees stream old →
      Q (Of64 committees) VouchedScheme bases.of_64 committees old new) → Goes any (Vouched64 new)
  goes_64 any old new is goes = goes_from any (Vouched64 old) (Vouched64 new) is (of_64 old new goes)

  of_96 : (old new : Live VouchedScheme) →
      ((committees : Schedule VouchedScheme) → Follows floor bases.of_96 committees stream old →
      Q (Of96 committees) VouchedScheme bases.of_96 committees old new) → Goes (Vouched96 old) (Vouched96 new)
  of_96 old new goes (Of48 committees) h = absurd h
  of_96 old new goes (Of64 committees) h = absurd h
  of_96 old new goes (Of96 committees) h = goes committees h
  of_96 old new goes (OfKeys committees) h = absurd h

  pub goes_96 : (any : AnyAuditor) (old new : Live VouchedScheme) → any ≡ Vouched96 old →
      ((committees : Schedule VouchedScheme) → Follows floor bases.of_96 committees stream old →
      Q (Of96 committees) VouchedScheme bases.of_96 committees old new) → Goes any (Vouched96 new)
  goes_96 any old new is goes = goes_from any (Vouched96 old) (Vouched96 new) is (of_96 old new goes)

  of_keyed : (old new : Live PlainScheme) →
      ((committees : Schedule PlainScheme) → Follows floor bases.of_keys committees stream old →
      Q (OfKeys committees) PlainScheme bases.of_keys committees old new) → Goes (Keyed old) (Keyed new)
  of_keyed old new goes (Of48 committees) h = absurd h
  of_keyed old new goes (Of64 committees) h = absurd h
  of_keyed old new goes (Of96 committees) h = absurd h
  of_keyed old new goes (OfKeys committees) h = goes committees h

  pub goes_keyed : (any : AnyAuditor) (old new : Live PlainScheme) → any ≡ Keyed old →
      ((committees : Schedule PlainScheme) → Follows floor bases.of_keys committees stream old →
      Q (OfKeys committees) PlainScheme bases.of_keys committees old new) → Goes any (Keyed new)
  goes_keyed any old new is goes = goes_from any (Keyed old) (Keyed new) is (of_keyed old new goes)

  -- an auditor of keys that is as it was
  pub kept_keyed : (any : AnyAuditor) (live : Live PlainScheme) → any ≡ Keyed live →
      ((committees : Schedule PlainScheme) → Follows floor bases.of_keys committees stream live →
      Q (OfKeys committees) PlainScheme bases.of_keys committees live live) → Goes any any
  kept_keyed any live is goes = subst (λ (a : AnyAuditor). Goes a a) (sym is) (of_keyed live live goes)

-- the same, said of every roster alike
module _ (bases : Bases) (Q : Relation) (floor : Round) (stream : List ℕ) where
  abbrev Moves : AnyAuditor → AnyAuditor → Type 0
  Moves old new = (roster : Roster) → Between bases (Following floor stream) roster old old → Between bases Q roster old new

  pub moves_48 : (any : AnyAuditor) (old new : Live VouchedScheme) → any ≡ Vouched48 old →
      ((committees : Schedule VouchedScheme) → Follows floor bases.of_48 committees stream old →
      Q VouchedScheme bases.of_48 committees old new) → Moves any (Vouched48 new)
  moves_48 = goes_48 bases (λ roster. Q) floor stream

  pub moves_64 : (any : AnyAuditor) (old new : Live VouchedScheme) → any ≡ Vouched64 old →
      ((committees : Schedule VouchedScheme) → Follows floor bases.of_64 committees stream old →
      Q VouchedScheme bases.of_64 committees old new) → Moves any (Vouched64 new)
  moves_64 = goes_64 bases (λ roster. Q) floor stream

  pub moves_96 : (any : AnyAuditor) (old new : Live VouchedScheme) → any ≡ Vouched96 old →
      ((committees : Schedule VouchedScheme) → Follows floor bases.of_96 committees stream old →
      Q VouchedScheme bases.of_96 committees old new) → Moves any (Vouched96 new)
  moves_96 = goes_96 bases (λ roster. Q) floor stream

  pub moves_keyed : (any : AnyAuditor) (old new : Live PlainScheme) → any ≡ Keyed old →
      ((committees : Schedule PlainScheme) → Follows floor bases.of_keys committees stream old →
      Q PlainScheme bases.of_keys committees old new) → Moves any (Keyed new)
  moves_keyed = goes_keyed bases (λ roster. Q) floor stream

-- ---- the auditor in a handle

module _ (bases : Bases) (R : Relation) where
  -- nothing is said where there is none
  pub nothing_held : {A : Type 0} (roster : Roster) (held : Held) → held ≡ None → InHandle bases R roster held held → A
  nothing_held roster None none h = absurd h
  nothing_held roster (Some one) none h = absurd cc

  -- what is said of the auditors is said of what the handle owned and owns
  pub handled : (Q : Relation) (roster : Roster) (held next : Held) (old new : AnyAuditor) → held ≡ Some old →
      next ≡ Some new → (Between bases R roster old old → Between bases Q roster old new) →
      InHandle bases R roster held held → InHandle bases Q roster held next
  handled Q roster held next old new was is goes h =
      subst (λ (o : Held). InHandle bases Q roster o next) (sym was)
      (subst (λ (o : Held). InHandle bases Q roster (Some old) o) (sym is)
      (goes (subst (λ (o : Held). InHandle bases R roster o o) was h)))

  -- the same of one auditor
  pub owned : (roster : Roster) (held : Held) (one : AnyAuditor) → held ≡ Some one → Between bases R roster one one →
      InHandle bases R roster held held
  owned roster held one is h = subst (λ (o : Held). InHandle bases R roster o o) (sym is) h

-- the same floor
pub pruned_to : (bases : Bases) (roster : Roster) (floor : Round) (stream : List ℕ) (old new : AnyAuditor)
    (a b : Round) → a ≡ b →
    Between bases (Pruning floor stream a) roster old new → Between bases (Pruning floor stream b) roster old new
pruned_to bases roster floor stream old new a b same =
    subst (λ (l : Round). Between bases (Pruning floor stream l) roster old new) same
