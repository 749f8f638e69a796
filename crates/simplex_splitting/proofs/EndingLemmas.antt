-- How a run ends, from what was cut.
use Rattle.std.proofs.Common.{◌≡◌, ◌<◌, ◌⊎◌, arith, inl, inr, refl, [], Err, Option, ℕ, List, length, subst, sym}
use Rattle.std.specs.Int.NonZero.{non_zero_u32_get}
use Rattle.std.specs.Io.KnownBytes.{Appends, Keeps}
use Rattle.std.specs.Prelude.{All}
use Rattle.std.proofs.lemmas.List.Elements.{All-nil}
use Rattle.simplex_audit.specs.Outcome.{WriterUse, writer_use}
use Rattle.simplex_stream.specs.declared.watched.Watched.{Watched}
use Rattle.simplex_splitting.proofs.LineLemmas.{no_lines}
use Rattle.simplex_splitting.proofs.PartLemmas.{kept_nothing}
use Rattle.simplex_splitting.specs.Ending.{AreBegun, AreCutBefore, AreNoParts, AreStopped, FilesEnd, IsOfFile, IsOfParts, OptionsEnd, Readings, SplitEnding, SplitEnds, reads_of}
use Rattle.simplex_cli.specs.declared.verdicts.SignatureSize.{SignatureSize}
use Rattle.simplex_splitting.specs.Files.{IsFirstPart, IsPartNamed, NamesPart}
use Rattle.simplex_splitting.specs.declared.complaints.Trouble.{Trouble}
use Rattle.simplex_splitting.specs.declared.complaints.Trouble.TheVariants.{OutOfMemory, PartNamed, Unread, Unsaid, Unwritten, Usage}
use Rattle.simplex_splitting.specs.declared.options.Options.{Options}
use Rattle.simplex_splitting.specs.declared.splitting.Totals.{Totals}

module _ (Reads : List ℕ → Totals → Type 0) (names : List (List ℕ)) where
  -- what holds after a trouble holds of an ending by it
  stopped : (writer : WriterUse) (trouble : Trouble) (ending : SplitEnding) → ending ≡ Err trouble →
      AreStopped Reads names writer trouble → FilesEnd Reads names writer ending
  stopped writer trouble ending is stops = subst (λ (e : SplitEnding). FilesEnd Reads names writer e) (sym is) stops

  file_stops : (writer : WriterUse) (place class : ℕ) (trouble : Trouble) → place < length names →
      IsOfFile place class trouble → AreCutBefore Reads names writer place → AreStopped Reads names writer trouble
  file_stops writer place class Usage within of cut = absurd of
  file_stops writer place class (PartNamed at) within of cut = absurd of
  file_stops writer place class (Unread at) within of cut =
      subst (λ (n : ℕ). (n < length names) × AreCutBefore Reads names writer n) (sym of) (within, cut)
  file_stops writer place class (Unwritten at) within of cut = (place, cut)
  file_stops writer place class OutOfMemory within of cut = (place, cut)
  file_stops writer place class Unsaid within of cut = absurd of

  -- the cut of the file at a place failed
  pub file_fails : (writer : WriterUse) (place class : ℕ) (trouble : Trouble) (ending : SplitEnding) → ending ≡ Err trouble →
      place < length names → IsOfFile place class trouble → AreCutBefore Reads names writer place →
      FilesEnd Reads names writer ending
  file_fails writer place class trouble ending is within of cut =
      stopped writer trouble ending is (file_stops writer place class trouble within of cut)

  -- its line was not written
  pub line_fails : {W : Type 0} (contents : W → Option (List ℕ)) (start before after : Watched W) (place : ℕ)
      (trouble : Trouble) (ending : SplitEnding) → ending ≡ Err trouble →
      ((trouble ≡ Unsaid) ⊎ ((trouble ≡ OutOfMemory) × (after ≡ before))) →
      AreCutBefore Reads names (writer_use contents start before) place →
      AreBegun Reads names (writer_use contents start after) →
      FilesEnd Reads names (writer_use contents start after) ending
  line_fails contents start before after place trouble ending is (inl unsaid) cut begun =
      stopped (writer_use contents start after) Unsaid ending (cc) begun
  line_fails {W = W} contents start before after place trouble ending is (inr (memory, same)) cut begun =
      stopped (writer_use contents start after) OutOfMemory ending (cc)
      (place, subst (λ (w : Watched W). AreCutBefore Reads names (writer_use contents start w) place) (sym same) cut)

  -- nothing was read or written yet
  abbrev pub none_cut : (writer : WriterUse) → Keeps writer.before writer.after → AreCutBefore Reads names writer 0
  none_cut writer keeps = record {
    all = [];
    count_is = refl;
    read = All-nil _;
    said = subst (Appends writer.before writer.after) (sym (no_lines names)) (kept_nothing writer.before writer.after keeps);
    flushed = λ some. absurd (omega (arith, some));
  }

  parts_stop : (writer : WriterUse) (classes : ℕ) (trouble : Trouble) → IsOfParts classes trouble →
      AreCutBefore Reads names writer 0 → AreStopped Reads names writer trouble
  parts_stop writer classes Usage of cut = absurd of
  parts_stop writer classes (PartNamed at) of cut = absurd of
  parts_stop writer classes (Unread at) of cut = absurd of
  parts_stop writer classes (Unwritten at) of cut = (0, cut)
  parts_stop writer classes OutOfMemory of cut = (0, cut)
  parts_stop writer classes Unsaid of cut = absurd of

  -- a part could not be made
  pub parts_fail : (writer : WriterUse) (classes : ℕ) (trouble : Trouble) (ending : SplitEnding) → ending ≡ Err trouble →
      IsOfParts classes trouble → Keeps writer.before writer.after → FilesEnd Reads names writer ending
  parts_fail writer classes trouble ending is of keeps =
      stopped writer trouble ending is (parts_stop writer classes trouble of (none_cut writer keeps))

-- the same words by another name
pub ends_alike : (readings : Readings) (words others : List (List ℕ)) (writer : WriterUse) (ending : SplitEnding) →
    words ≡ others → SplitEnds readings words writer ending → SplitEnds readings others writer ending
ends_alike readings words others writer ending = subst (λ (ws : List (List ℕ)). SplitEnds readings ws writer ending)

-- files of which one has the name of a part, by another name of the number of classes
pub named_ends : (readings : Readings) (options : Options) (files : List (List ℕ)) (writer : WriterUse) (trouble : Trouble)
    (ending : SplitEnding) (classes : ℕ) → ending ≡ Err trouble → classes ≡ non_zero_u32_get options.division.classes →
    IsPartNamed options.division.prefix.now classes files trouble → Keeps writer.before writer.after →
    OptionsEnd readings options files writer ending
named_ends readings options files writer (PartNamed place) ending classes is same named keeps =
    inr (
      keeps,
      (place, is, subst (λ (n : ℕ). IsFirstPart options.division.prefix.now n files place) same named),
    )
named_ends readings options files writer Usage ending classes is same named keeps = absurd named
named_ends readings options files writer (Unread place) ending classes is same named keeps = absurd named
named_ends readings options files writer (Unwritten class) ending classes is same named keeps = absurd named
named_ends readings options files writer Unsaid ending classes is same named keeps = absurd named
named_ends readings options files writer OutOfMemory ending classes is same named keeps = absurd named

-- files with signatures of one size
pub signed_ends : (readings : Readings) (bound : ℕ) (names : List (List ℕ)) (writer : WriterUse) (ending : SplitEnding)
    (given size : Option SignatureSize) → given ≡ size → FilesEnd (reads_of readings size bound) names writer ending →
    FilesEnd (reads_of readings given bound) names writer ending
signed_ends readings bound names writer ending given size is =
    subst (λ (s : Option SignatureSize). FilesEnd (reads_of readings s bound) names writer ending) (sym is)

-- none has the name of a part, by another name of the number of classes
pub no_parts : (options : Options) (files : List (List ℕ)) (classes : ℕ) →
    classes ≡ non_zero_u32_get options.division.classes →
    All (λ name. ¬ NamesPart options.division.prefix.now classes name) files → AreNoParts options files
no_parts options files classes is =
    subst (λ (n : ℕ). All (λ name. ¬ NamesPart options.division.prefix.now n name) files) is
