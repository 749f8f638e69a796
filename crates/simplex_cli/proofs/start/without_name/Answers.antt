use Rattle.std.proofs.Common.{◌≡◌, ◌++◌, Ok, drop, map, ap, ◌∙◌, String, string_bytes}
use Rattle.std.specs.Global.{Global}
use Rattle.std.specs.declared.alloc.AllocError.{AllocError}
use Rattle.std.specs.Vec.Iter.{into_iter_items, into_iter_len, into_iter_steps}
use Rattle.std.proofs.lemmas.Iterator.Adapters.{items_from_extend, YieldsList-from_skip, YieldsList-from_vec}
use Rattle.simplex_cli.proofs.start.without_name.Goals as goal

pub returns : goal.returns
returns c =
    let all = YieldsList-from_vec {A = String Global} {Z = Global} {s = c.skip.result.iter} c.args.given.rest.items
    (ap into_iter_items c.skip.ensures.source) (ap into_iter_len c.skip.ensures.source ∙ c.args.given.rest.ok.0) in
    let rest = YieldsList-from_skip {steps = into_iter_steps {X = String Global} {Z = Global}} {v = λ y. y} {s = c.skip.result}
    1 all c.skip.ensures.count in
    let made : c.extend.new.self.items ≡ c.in_ok-words.words.items ++ drop 1 c.args.given.rest.items =
    (items_from_extend {E = AllocError} (Ok c.in_ok-extend.field-0) c.in_ok-extend.ensures.ran rest).0 in
    ap (map string_bytes) (rw c.in_ok-words.ensures.items at made)
