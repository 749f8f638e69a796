-- What a run does with its reader and its writer.
use Rattle.std.specs.Prelude.{ℕ, Bool, List, Option, IfSome}
use Rattle.std.specs.Io.KnownBytes.{Consumes, IsAtEnd, Appends}
use Rattle.simplex_audit.specs.Basis.{Basis}
use Rattle.simplex_stream.specs.Text.{AppendsBeginning}
use Rattle.simplex_audit.specs.Run.{IsAccount}
use Rattle.simplex_stream.specs.Watched.{inner_of, has_failed, is_flushed}
use Rattle.simplex_audit.specs.declared.run.Summary.{Summary}
use Rattle.simplex_stream.specs.declared.watched.Watched.{Watched}

-- what became of a reader: its bytes before and after, where they are known, and whether a read failed
pub record ReaderUse : Type 0 where
  pub before : Option (List ℕ)
  pub after : Option (List ℕ)
  pub failed : Bool

-- what became of a watched reader, where `remaining` gives the bytes that it has left
abbrev pub reader_use : {R : Type 0} → (R → Option (List ℕ)) → Watched R → Watched R → ReaderUse
reader_use remaining old new = record {
  before = remaining (inner_of old);
  after = remaining (inner_of new);
  failed = has_failed new;
}

-- what became of a writer: its bytes before and after, where they are known, whether a call failed, and whether it was
-- flushed after its last write
pub record WriterUse : Type 0 where
  pub before : Option (List ℕ)
  pub after : Option (List ℕ)
  pub failed : Bool
  pub flushed : Bool

-- what became of a watched writer, where `contents` gives the bytes that it holds
abbrev pub writer_use : {W : Type 0} → (W → Option (List ℕ)) → Watched W → Watched W → WriterUse
writer_use contents old new = record {
  before = contents (inner_of old);
  after = contents (inner_of new);
  failed = has_failed new;
  flushed = is_flushed new;
}

-- the whole reader was read, and exactly the text of its report was written
abbrev pub WritesReport : {S D C P G : Type 0} → Basis S D C P G → (D → List ℕ) → ReaderUse → WriterUse → Summary → Type 0
WritesReport basis bytes_of reader writer summary =
    (input text : List ℕ) × Consumes reader.before reader.after input × IsAtEnd reader.after
    × IsAccount basis bytes_of input summary text × Appends writer.before writer.after text

-- if the reader's remaining bytes are known, they are the input whose report was written
abbrev pub WritesReportOfKnown : {S D C P G : Type 0} → Basis S D C P G → (D → List ℕ) → ReaderUse → WriterUse → Summary →
    Type 0
WritesReportOfKnown basis bytes_of reader writer summary =
    IfSome reader.before (λ input. (text : List ℕ) × IsAccount basis bytes_of input summary text
    × Appends writer.before writer.after text)

-- the whole reader was read, and a prefix of the text of its report was written
abbrev pub BeginsReport : {S D C P G : Type 0} → Basis S D C P G → (D → List ℕ) → ReaderUse → WriterUse → Type 0
BeginsReport basis bytes_of reader writer =
    (input text : List ℕ) × (summary : Summary) × Consumes reader.before reader.after input × IsAtEnd reader.after
    × IsAccount basis bytes_of input summary text × AppendsBeginning writer.before writer.after text
