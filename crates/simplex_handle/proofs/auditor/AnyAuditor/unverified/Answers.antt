use Rattle.std.proofs.Common.{refl, inl}
use Rattle.simplex_handle.specs.contracts.auditor.AnyAuditorJudged.TheImpl as judged
use Rattle.simplex_handle.specs.Standing.{Deferring}
use Rattle.simplex_handle.proofs.RepliesLemmas.{goes_48, goes_64, goes_96, kept_keyed}
use Rattle.simplex_handle.proofs.auditor.AnyAuditor.unverified.Goals as goal

pub returns-in-Vouched48-clause-defers : goal.returns-in-Vouched48-clause-defers
returns-in-Vouched48-clause-defers c = λ roster floor stream.
    let r = c.unverified in
    goes_48 _ (Deferring floor stream judged.ghosts.encodings c.args.bytes.now c.args.records.now r.new.records r.new.needed
    r.new.whole r.result)
    floor stream _ c.in-Vouched48.live r.new.live c.in-Vouched48.is (λ committees. r.ensures.defers floor committees stream)
    roster

pub returns-in-Vouched64-clause-defers : goal.returns-in-Vouched64-clause-defers
returns-in-Vouched64-clause-defers c = λ roster floor stream.
    let r = c.unverified-in-Vouched64 in
    goes_64 _ (Deferring floor stream judged.ghosts.encodings c.args.bytes.now c.args.records.now r.new.records r.new.needed
    r.new.whole r.result)
    floor stream _ c.in-Vouched64.live r.new.live c.in-Vouched64.is (λ committees. r.ensures.defers floor committees stream)
    roster

pub returns-in-Vouched96-clause-defers : goal.returns-in-Vouched96-clause-defers
returns-in-Vouched96-clause-defers c = λ roster floor stream.
    let r = c.unverified-in-Vouched96 in
    goes_96 _ (Deferring floor stream judged.ghosts.encodings c.args.bytes.now c.args.records.now r.new.records r.new.needed
    r.new.whole r.result)
    floor stream _ c.in-Vouched96.live r.new.live c.in-Vouched96.is (λ committees. r.ensures.defers floor committees stream)
    roster

pub returns-in-Keyed-clause-defers : goal.returns-in-Keyed-clause-defers
returns-in-Keyed-clause-defers c = λ roster floor stream.
    kept_keyed _ (Deferring floor stream judged.ghosts.encodings c.args.bytes.now c.args.records.now c.args.records.now
    c.args.needed.now
    c.args.whole.now 2) floor stream c.args.self.now c.in-Keyed.field-0 c.in-Keyed.is (λ committees h. record {
      stays = record { follows = h; waits = record { evidence = refl; splits = refl } };
      given = λ not. absurd (not refl);
      refused = λ _. inl refl;
      keyed = λ _. refl;
    }) roster
