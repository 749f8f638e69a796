use Rattle.simplex_base.specs.Format.{fixed, IsLawful}
use Rattle.simplex_base.specs.FormatLaws.{fixed_lawful}
use Rattle.simplex_scheme.specs.Subject.{subject_value}
use Rattle.simplex_scheme.proofs.SubjectLemmas.{one_subject}
use Rattle.simplex_scheme.proofs.subject.SubjectCertificateSubject.message.Given as given
use Rattle.simplex_scheme.proofs.subject.SubjectCertificateSubject.message.Goals as goal

-- a digest's format is lawful
law : (g : given.Over) → IsLawful (fixed g.D.Fixed.SIZE g.D.Fixed.bytes_of g.D.Fixed.of_bytes)
law g = fixed_lawful _ _ _ g.met.D.Fixed.back g.met.D.Fixed.forth

pub returns-in-Notarize-clause-one : goal.returns-in-Notarize-clause-one
returns-in-Notarize-clause-one g c base other is =
    one_subject _ (law g) base (subject_value c.args.self.now) other (rw c.in-Notarize.is c.encode.ensures.value) is

pub returns-in-Nullify-clause-one : goal.returns-in-Nullify-clause-one
returns-in-Nullify-clause-one g c base other is =
    one_subject _ (law g) base (subject_value c.args.self.now) other (rw c.in-Nullify.is c.encode-in-Nullify.ensures.value) is

pub returns-in-Finalize-clause-one : goal.returns-in-Finalize-clause-one
returns-in-Finalize-clause-one g c base other is =
    one_subject _ (law g) base (subject_value c.args.self.now) other (rw c.in-Finalize.is c.encode-in-Finalize.ensures.value) is
