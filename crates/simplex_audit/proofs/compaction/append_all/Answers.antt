use Rattle.std.proofs.Common.{◌++◌, ◌∙◌, [], ◌∷◌, ap, append-nil, append_assoc, sym, take}
use Rattle.std.specs.List.{flat_map}
use Rattle.std.proofs.lemmas.Grind.{flat_map-append}
use Rattle.std.proofs.lemmas.List.{take_all, take_more}
use Rattle.std.proofs.lemmas.List.Elements.{All-nil, All-push}
use Rattle.simplex_audit.proofs.compaction.append_all.Goals as goal

pub messages-init : goal.messages-init
messages-init g c = record {
  written = sym (append-nil c.args.kept.now.items);
  values = All-nil g.M.Encoding.is_value;
}

pub messages-preserved : goal.messages-preserved
messages-preserved g c =
    let xs = c.args.messages.now in
    let i = c.messages.message-index in
    let x = c.message-item.result in
    let f = g.M.Encoding.encoding in
    rw (take_more xs i x c.messages-test.true, sym c.message-item.is)
    (record {
      written = c.in_ok-append.ensures.written
          ∙ ap (λ ys. ys ++ f x) c.messages.invariant.written
          ∙ append_assoc c.args.kept.now.items (flat_map f (take i xs)) (f x)
          ∙ ap (λ ys. c.args.kept.now.items ++ ys) (ap (λ ys. flat_map f (take i xs) ++ ys) (sym (append-nil (f x)))
          ∙ sym (flat_map-append f (take i xs) (x ∷ [])));
      values = All-push g.M.Encoding.is_value (take i xs) x c.messages.invariant.values c.append.ensures.value;
    })

pub returns : goal.returns
returns g c =
    rw (take_all c.messages.message-index c.args.messages.now c.messages-test.false) at c.messages.invariant
