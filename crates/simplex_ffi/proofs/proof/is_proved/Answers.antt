use Rattle.std.proofs.Common.{None, Some, ap, subst, sym, ◌∙◌}
use Rattle.simplex_base.specs.Positions.{Round}
use Rattle.simplex_scheme.specs.Committees.{committee_of}
use Rattle.simplex_evidence.specs.Contents.{AreInConflict, ContentsValue, contents_value}
use Rattle.simplex_rules.specs.Scheme.{Scheme, scheme_of}
use Rattle.simplex_ffi.proofs.ProofLemmas.{proved_by, two_votes}
use Rattle.simplex_ffi.proofs.proof.is_proved.Given as given
use Rattle.simplex_ffi.proofs.proof.is_proved.Goals as goal

-- how committees judge
abbrev scheme : (g : given.Over) → Scheme g.row.S.Denot g.row.D.Denot g.row.S-Certificate.Denot g.row.S-PublicKey.Denot
    g.row.S-Signature.Denot
scheme g =
    scheme_of g.D.PartialEq.eq g.S.CertificateScheme.keys g.S.Scheme.good g.S.CertificateVerifier.certified g.S.Listing.listed

pub returns-in-Some : goal.returns-in-Some
returns-in-Some g c = λ e is.
    let value = c.contents-contents.ensures.value in
    let held = value ∙ two_votes g.row.S.Denot g.row.S-PublicKey.Denot c.args.message.now e is in
    let conflict = subst (λ (h : ContentsValue g.row.D.Denot g.row.S-Certificate.Denot g.row.S-Signature.Denot).
    AreInConflict g.D.PartialEq.eq h) (sym value) c.contents-contents.ensures.conflict in
    let found = ap (λ (r : Round). committee_of c.args.committees.now r.epoch) (sym c.round.ensures)
    ∙ (ap (committee_of c.args.committees.now) (sym c.epoch.ensures) ∙ sym c.in-Some.ensures) in
    c.verify.ensures
    ∙ sym (proved_by (scheme g) c.args.committees.now (contents_value c.contents-contents.result) e
    (Some c.in-Some.committee.now) held conflict found)

pub returns-in-None : goal.returns-in-None
returns-in-None g c = λ e is.
    let value = c.contents-contents.ensures.value in
    let held = value ∙ two_votes g.row.S.Denot g.row.S-PublicKey.Denot c.args.message.now e is in
    let conflict = subst (λ (h : ContentsValue g.row.D.Denot g.row.S-Certificate.Denot g.row.S-Signature.Denot).
    AreInConflict g.D.PartialEq.eq h) (sym value) c.contents-contents.ensures.conflict in
    let found = ap (λ (r : Round). committee_of c.args.committees.now r.epoch) (sym c.round.ensures)
    ∙ (ap (committee_of c.args.committees.now) (sym c.epoch.ensures) ∙ sym c.in-None.ensures) in
    sym (proved_by (scheme g) c.args.committees.now (contents_value c.contents-contents.result) e None held conflict found)
