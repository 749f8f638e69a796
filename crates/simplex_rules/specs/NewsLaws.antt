-- What is kept of messages one after another.
use Rattle.std.proofs.Common.{◌≡◌, List, [], ◌∷◌, ◌++◌, sym, ap, ◌∙◌, append-nil, append_assoc}
use Rattle.simplex_evidence.specs.declared.types.activity.Activity.{Activity}
use Rattle.simplex_rules.specs.News.{kept_of, messages_kept}
use Rattle.simplex_rules.specs.Rules.{Rules}

module _ {S D C P G : Type 0} (rules : Rules S D C P G) where
  -- what is kept of messages and of more messages, behind any messages
  pub kept-append : (before ms ns : List (Activity S D C P G)) →
      messages_kept rules before (ms ++ ns) ≡ messages_kept rules before ms ++ messages_kept rules (before ++ ms) ns
  kept-append before [] ns = ap (λ ks. messages_kept rules ks ns) (sym (append-nil before))
  kept-append before (k ∷ ms) ns =
      let first = kept_of rules before k in
      let rest = messages_kept rules (before ++ k ∷ []) ms in
      ap (λ ks. first ++ ks) (kept-append (before ++ k ∷ []) ms ns
      ∙ ap (λ ks. rest ++ messages_kept rules ks ns) (append_assoc before (k ∷ []) ms))
      ∙ sym (append_assoc first rest (messages_kept rules (before ++ k ∷ ms) ns))

  -- what is kept of messages and of one message more
  pub kept_next : (before ms : List (Activity S D C P G)) (m : Activity S D C P G) →
      messages_kept rules before (ms ++ m ∷ []) ≡ messages_kept rules before ms ++ kept_of rules (before ++ ms) m
  kept_next before ms m =
      kept-append before ms (m ∷ [])
      ∙ ap (λ ks. messages_kept rules before ms ++ ks) (append-nil (kept_of rules (before ++ ms) m))
