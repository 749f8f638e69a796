-- What a call does to an auditor, and puts into a caller's buffer.
use Rattle.std.specs.Prelude.{◌≡◌, ◌≢◌, ◌⊎◌, ◌≤◌, ◌+◌, ◌^◌, ℕ, true, false, List, [], ◌++◌, length}
use Rattle.std.specs.Int.{from_bool}
use Rattle.std.specs.Ordering.{ord_max}
use Rattle.simplex_base.specs.Positions.{Round}
use Rattle.simplex_scheme.specs.Committees.{Schedule}
use Rattle.simplex_evidence.specs.Contradiction.{Equivocation}
use Rattle.simplex_evidence.specs.declared.types.activity.Activity.{Activity}
use Rattle.simplex_rules.specs.Accusation.{round_cmp}
use Rattle.simplex_rules.specs.Independence.{first_round}
use Rattle.simplex_rules.specs.Line.{line_of}
use Rattle.simplex_rules.specs.Splits.{split_line}
use Rattle.simplex_rules.specs.declared.split.Split.{Split}
use Rattle.simplex_audit.specs.Basis.{Basis, basis_from}
use Rattle.simplex_audit.specs.Report.{IsReport}
use Rattle.simplex_audit.specs.Run.{report_text, text_of}
use Rattle.simplex_audit.specs.declared.audit.Report.{Report}
use Rattle.simplex_places.specs.Pieces.{IsPiece}
use Rattle.simplex_places.specs.declared.pieces.Piece.{Piece}
use Rattle.simplex_places.specs.declared.places.Placed.{Placed}
use Rattle.simplex_places.specs.declared.repeats.Unverified.{Unverified}
use Rattle.simplex_border.specs.Answer.{IsPut, IsSummary, ended_of}
use Rattle.simplex_border.specs.declared.answer.ReportSummary.{ReportSummary}
use Rattle.simplex_tracker.specs.Live.{AreNews, CanStandFor, Follows, HasEnded, IsShort, LosesNothing, TakesPiece, WaitSame, evidence_waiting, splits_waiting}
use Rattle.simplex_tracker.specs.Tracking.{EndsWhole, HasVotes}
use Rattle.simplex_tracker.specs.declared.live.LiveAuditor.{LiveAuditor}

-- The report of a stream: the summary is that of it, and its text stands at the start of the buffer, with 0 if the stream has
-- no fault and 1 if it has one; or the buffer is too short and as before, with 4.
pub record IsReported {S D C P G : Type 0} (basis : Basis S D C P G) (bytes_of : D → List ℕ) (stream before after : List ℕ)
    (summary : ReportSummary) (status : ℕ) : Type 0 where
  pub report : Report S D P G
  pub report_is : IsReport basis stream report
  pub summary_is : IsSummary bytes_of report summary
  pub text_is : IsPut (report_text bytes_of report) before after status (ended_of report.fault)

-- Few messages that can stand for a stream, and the bytes after its last whole message, stand at the start of the buffer, with
-- 0; or the buffer is too short and as before, with 4.
pub record IsSaved {S D C P G : Type 0} (basis : Basis S D C P G) (stream before after : List ℕ)
    (size status : ℕ) : Type 0 where
  pub bytes : List ℕ
  pub stands : CanStandFor basis bytes stream
  pub short : IsShort basis bytes
  pub size_is : size ≡ length bytes
  pub bytes_are : IsPut bytes before after status 0

-- the lines of some evidence, and then those of some splits
abbrev pub news_text : {D G : Type 0} → (D → List ℕ) → List (Equivocation D G) → List Split → List ℕ
news_text bytes_of es splits = text_of (line_of bytes_of) es ++ text_of split_line splits

-- What waits to be handed over stands as lines at the start of the buffer and waits no more, with 0; or the buffer is too short
-- and as before, and it waits, with 4.
pub record IsTold {S D P G : Type 0} (bytes_of : D → List ℕ) (before after : List ℕ) (size status : ℕ)
    (old new : LiveAuditor S D P G) : Type 0 where
  pub size_is : size ≡ length (news_text bytes_of (evidence_waiting old) (splits_waiting old))
  pub text_is : IsPut (news_text bytes_of (evidence_waiting old) (splits_waiting old)) before after status 0
  pub no_evidence_waits : status ≡ 0 → evidence_waiting new ≡ []
  pub no_split_waits : status ≡ 0 → splits_waiting new ≡ []

-- A piece follows a stream that ends with a whole message. What has to be verified of the piece before it is fed, from the
-- floor on, stands at the start of the buffer, with 0, or with 1 if the stream has a fault behind the piece's whole messages;
-- or the buffer is too short and as before, with 4. Signatures have `size` bytes before the verdict, and `places_in` gives the
-- attestations of a message that begins at a place.
pub record IsPieceGiven {S D C P G : Type 0} (floor : Round) (basis : Basis S D C P G)
    (places_in : ℕ → Activity S D C P G → List Placed) (size : ℕ) (stream bytes : List ℕ) (before after : List Unverified)
    (needed whole status : ℕ) : Type 0 where
  pub begins : EndsWhole basis stream true
  pub piece : Piece
  pub piece_is : IsPiece floor basis places_in size bytes piece
  pub needed_is : needed ≡ length piece.unverified.items
  pub whole_is : whole ≡ piece.whole
  pub records_are : IsPut piece.unverified.items before after status (from_bool piece.over)

module _ {S D C P G : Type 0} (floor : Round) (basis : Schedule S → Basis S D C P G) (committees : Schedule S)
    (stream : List ℕ) where
  -- the auditor follows the stream as before, and what waits is as before
  pub record Stays (old new : LiveAuditor S D P G) : Type 0 where
    pub follows : Follows floor basis committees stream new
    pub waits : WaitSame old.news new.news

  -- A piece is fed, with 0; else nothing is fed and nothing lost. With 1 the stream has ended, with 5 it would have 2^64 bytes
  -- or more.
  pub record Feeds (piece : List ℕ) (status : ℕ) (old new : LiveAuditor S D P G) : Type 0 where
    pub taken : status ≡ 0 → TakesPiece floor basis committees stream piece old new
    pub kept : status ≢ 0 → LosesNothing floor basis committees stream old new
    pub over : status ≡ 1 → HasEnded (basis committees) stream
    pub long : status ≡ 5 → 2 ^ 64 ≤ length stream + length piece

  -- all below a floor is given up, and a lower floor than the present one changes nothing
  pub record Prunes (lowest : Round) (old new : LiveAuditor S D P G) : Type 0 where
    pub follows : Follows (ord_max round_cmp floor lowest) basis committees stream new
    pub waits : WaitSame old.news new.news

  -- the report of the stream from the floor on is put, but after a failed allocation
  pub record Reports (bytes_of : D → List ℕ) (before after : List ℕ) (summary : ReportSummary) (status : ℕ)
      (old new : LiveAuditor S D P G) : Type 0 where
    pub stays : Stays old new
    pub reported : status ≢ 3 →
        IsReported (basis_from floor (basis committees)) bytes_of stream before after summary status

  -- the recorded votes are counted, but after a failed allocation
  pub record Counts (count status : ℕ) (old new : LiveAuditor S D P G) : Type 0 where
    pub stays : Stays old new
    pub counted : status ≡ 0 → HasVotes (basis_from floor (basis committees)) stream count

  -- What has to be verified of a piece is put, but after a failed allocation. It is refused, with 2, if the stream ends within
  -- a message, or callers do not verify the signatures, which then have no size.
  pub record Defers (places_in : ℕ → Activity S D C P G → List Placed) (size : ℕ) (bytes : List ℕ)
      (before after : List Unverified) (needed whole status : ℕ) (old new : LiveAuditor S D P G) : Type 0 where
    pub stays : Stays old new
    pub given : status ≢ 2 → status ≢ 3 →
        IsPieceGiven floor (basis committees) places_in size stream bytes before after needed whole status
    pub refused : status ≡ 2 → (size ≡ 0) ⊎ EndsWhole (basis committees) stream false
    pub keyed : size ≡ 0 → status ≡ 2

  -- what is held is put, but after a failed allocation
  pub record Saves (before after : List ℕ) (size status : ℕ) (old new : LiveAuditor S D P G) : Type 0 where
    pub stays : Stays old new
    pub saved : status ≢ 3 → IsSaved (basis_from floor (basis committees)) stream before after size status

  -- what waits is put and waits no more; after a failed allocation it waits
  pub record Tells (bytes_of : D → List ℕ) (before after : List ℕ) (size status : ℕ)
      (old new : LiveAuditor S D P G) : Type 0 where
    pub follows : Follows floor basis committees stream new
    pub told : status ≢ 3 → IsTold bytes_of before after size status old new
    pub waits : status ≢ 0 → WaitSame old.news new.news

-- an auditor was fed what another one held, or nothing, and what arises in that waits
pub record Begins {S D C P G : Type 0} (basis : Schedule S → Basis S D C P G) (committees : Schedule S) (held : List ℕ)
    (new : LiveAuditor S D P G) : Type 0 where
  pub follows : Follows first_round basis committees held new
  pub waits : AreNews (basis_from first_round (basis committees)) [] held (evidence_waiting new) (splits_waiting new)
