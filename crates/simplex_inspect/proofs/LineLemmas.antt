-- The line of a JSON value.
use Rattle.std.proofs.Common.{◌≡◌, ℕ, ◌≤◌, List, [], ◌++◌, Result, Ok, Err, Some, option_and_then, sym, ap, ◌∙◌, append-nil}
use Rattle.std.specs.Prelude.{IfOk, codes}
use Rattle.json.specs.Json.{Json, if_last, value, max_depth, document}
use Rattle.json.specs.Lex.{tokens}
use Rattle.json.specs.Print.{print}
use Rattle.json.specs.Token.{Token}
use Rattle.json.specs.Tree.{json_tokens, depth}
use Rattle.json.specs.Written.{Written}
use Rattle.json.proofs.Printed.Trees.{value-json_tokens}
use Rattle.simplex_inspect.specs.Tokens.{Appended}
use Rattle.simplex_inspect.specs.Values.{line_of, IsJsonLine}

-- what was written to a new writer
pub from_nothing : {ts : List Token} {a b : Written} → a.tokens ≡ [] → Appended ts a b → b.tokens ≡ ts
from_nothing {ts} none p = p.tokens ∙ ap (λ (us : List Token). us ++ ts) none

-- the text of a value is a document
document_is : (ts : List Token) (j : Json) → ts ≡ json_tokens j → tokens (print ts) ≡ ts → depth j ≤ max_depth →
    document (print ts) ≡ Some j
document_is ts j is reads shallow =
    ap (option_and_then (λ p. if_last p.0 p.1))
    (ap (value max_depth) (reads ∙ (is ∙ sym (append-nil (json_tokens j)))) ∙ value-json_tokens j max_depth [] shallow)

module _ {X E : Type 0} (bytes : X → List ℕ) (ts : List Token) (j : Json) (is : ts ≡ json_tokens j) where
  -- the text is the line of the value
  pub ends_line : (r : Result X E) → IfOk r (λ x. bytes x ≡ print ts ++ codes "\n") → IfOk r (λ x. bytes x ≡ line_of j)
  ends_line (Ok x) e = e ∙ ap (λ (us : List Token). print us ++ codes "\n") is
  ends_line (Err e) h = tt

  -- and JSON
  pub ends_json : (r : Result X E) → tokens (print ts) ≡ ts → depth j ≤ max_depth →
      IfOk r (λ x. bytes x ≡ print ts ++ codes "\n") → IfOk r (λ x. IsJsonLine (bytes x) j)
  ends_json (Ok x) reads shallow e = (print ts, e, document_is ts j is reads shallow)
  ends_json (Err e) reads shallow h = tt
