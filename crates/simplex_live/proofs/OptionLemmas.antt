-- Which words begin with options.
use Rattle.std.proofs.Common.{◌≡◌, ◌∙◌, arith, Ok, Err, Option, Result, None, Some, ap, drop, inl, inr, length, length-drop, map, refl, take, ◌-◌, ◌+◌, ℕ, suc, zero, List, [], ◌∷◌, sym, subst}
use Rattle.std.specs.Global.{Global}
use Rattle.std.specs.Prelude.{IfErr, String, codes, option_map, string_bytes}
use Rattle.simplex_cli.specs.OptionLaws.{behind_alone, drop_twice, words_behind}
use Rattle.simplex_cli.specs.Options.{AreBehindOption}
use Rattle.simplex_live.specs.Options.{AreBehindFile, AreBehindOptions, AreBehindWindow}
use Rattle.simplex_live.specs.declared.options.Options.{Options}

-- no elements
pub none_left : {X : Type 0} (xs : List X) → length xs ≡ 0 → xs ≡ []
none_left [] e = refl
none_left (x ∷ xs) e = absurd cc

-- what holds for any error
pub if_err : {X E : Type 0} (r : Result X E) (Q : Type 0) → Q → IfErr r (λ e. Q)
if_err (Ok x) Q q = tt
if_err (Err e) Q q = q

-- words without a number behind the first option name no window
pub no_first : (words : List (List ℕ)) →
    ((number : ℕ) (behind : List (List ℕ)) → ¬ AreBehindOption (codes "--retain") 1000 words number behind) →
    (retained ahead : ℕ) (behind : List (List ℕ)) → ¬ AreBehindWindow words retained ahead behind
no_first words none retained ahead behind (between, first, second) = none retained between first

-- nor do those without one behind the second
pub no_second : (words between : List (List ℕ)) (number : ℕ) →
    AreBehindOption (codes "--retain") 1000 words number between →
    ((number : ℕ) (behind : List (List ℕ)) → ¬ AreBehindOption (codes "--ahead") 10 between number behind) →
    (retained ahead : ℕ) (behind : List (List ℕ)) → ¬ AreBehindWindow words retained ahead behind
no_second words between number here none retained ahead behind (others, first, second) =
    none ahead behind (subst (λ ws. AreBehindOption (codes "--ahead") 10 ws ahead behind)
    (sym (behind_alone (codes "--retain") 1000 words between others number retained here first)) second)

-- the same words stand behind a window, whichever it is
pub window_alone : (words behind others : List (List ℕ)) (retained ahead retained' ahead' : ℕ) →
    AreBehindWindow words retained ahead behind → AreBehindWindow words retained' ahead' others → behind ≡ others
window_alone words behind others retained ahead retained' ahead' (between, first, second) (between', first', second') =
    let same = behind_alone (codes "--retain") 1000 words between between' retained retained' first first' in
    behind_alone (codes "--ahead") 10 between' behind others ahead ahead'
    (subst (λ ws. AreBehindOption (codes "--ahead") 10 ws ahead behind) same second) second'

-- an option without a file
pub no_file : (option : List ℕ) (words : List (List ℕ)) (first : List ℕ) → words ≡ first ∷ [] → first ≡ option →
    (file : Option (List ℕ)) (behind : List (List ℕ)) → ¬ AreBehindFile option words file behind
no_file option words first is named (Some file) behind given = let e = sym is ∙ given in absurd cc
no_file option words first is named None behind none = none.0 ([], is ∙ ap (λ word. word ∷ []) named)

-- the same words stand behind an option, whichever the file is
file_alone : (option : List ℕ) (words behind others : List (List ℕ)) (file another : Option (List ℕ)) →
    AreBehindFile option words file behind → AreBehindFile option words another others → behind ≡ others
file_alone option words behind others (Some file) (Some another) given again = let same = sym given ∙ again in cc
file_alone option words behind others (Some file) None given none = absurd (none.0 (_, given))
file_alone option words behind others None (Some another) none given = absurd (none.0 (_, given))
file_alone option words behind others None None none again = none.1 ∙ sym again.1

-- words without a file behind the option of keys are no options
pub no_keys : (words between : List (List ℕ)) (retained ahead : ℕ) → AreBehindWindow words retained ahead between →
    ((file : Option (List ℕ)) (behind : List (List ℕ)) → ¬ AreBehindFile (codes "--keys") between file behind) →
    (options : Options) (behind : List (List ℕ)) → ¬ AreBehindOptions words options behind
no_keys words between retained ahead here none options behind (files, states, window, keys, state) =
    none (option_map (λ f. f.now) options.keys) states
    (subst (λ ws. AreBehindFile (codes "--keys") ws (option_map (λ f. f.now) options.keys) states)
    (window_alone words files between options.retained options.ahead retained ahead window here) keys)

-- nor are those without one behind that of the state
pub no_state : (words between later : List (List ℕ)) (retained ahead : ℕ) (file : Option (List ℕ)) →
    AreBehindWindow words retained ahead between → AreBehindFile (codes "--keys") between file later →
    ((file : Option (List ℕ)) (behind : List (List ℕ)) → ¬ AreBehindFile (codes "--state") later file behind) →
    (options : Options) (behind : List (List ℕ)) → ¬ AreBehindOptions words options behind
no_state words between later retained ahead file here there none options behind (files, states, window, keys, state) =
    let same = window_alone words files between options.retained options.ahead retained ahead window here in
    let again = file_alone (codes "--keys") between states later (option_map (λ f. f.now) options.keys) file
    (subst (λ ws. AreBehindFile (codes "--keys") ws (option_map (λ f. f.now) options.keys) states) same keys) there in
    none (option_map (λ f. f.now) options.state) behind
    (subst (λ ws. AreBehindFile (codes "--state") ws (option_map (λ f. f.now) options.state) behind) again state)

-- words that name no window are no options
pub no_window : (words : List (List ℕ)) →
    ((retained ahead : ℕ) (behind : List (List ℕ)) → ¬ AreBehindWindow words retained ahead behind) →
    (options : Options) (behind : List (List ℕ)) → ¬ AreBehindOptions words options behind
no_window words none options behind (files, states, window, keys, state) =
    none options.retained options.ahead files window

module _ (option : List ℕ) (first : ℕ) where
  -- no file among the words behind some
  pub no_file_behind : (arguments : List (String Global)) →
      ((file : Option (List ℕ)) (behind : List (List ℕ)) →
      ¬ AreBehindFile option (map string_bytes (take (length arguments - first) (drop first arguments))) file behind) →
      (file : Option (List ℕ)) (behind : List (List ℕ)) →
      ¬ AreBehindFile option (drop first (map string_bytes arguments)) file behind
  no_file_behind arguments =
      subst (λ (ws : List (List ℕ)). (file : Option (List ℕ)) (behind : List (List ℕ)) → ¬ AreBehindFile option ws file behind)
      (words_behind string_bytes first arguments)

  -- a file among them
  pub behind_file : (second : ℕ) (arguments : List (String Global)) (file : Option (List ℕ)) →
      AreBehindFile option (map string_bytes (take (length arguments - first) (drop first arguments))) file
      (drop second (map string_bytes (take (length arguments - first) (drop first arguments)))) →
      AreBehindFile option (drop first (map string_bytes arguments)) file (drop (first + second) (map string_bytes arguments))
  behind_file second arguments file is =
      subst (AreBehindFile option (drop first (map string_bytes arguments)) file)
      (drop_twice first second (map string_bytes arguments))
      (subst (λ (ws : List (List ℕ)). AreBehindFile option ws file (drop second ws))
      (words_behind string_bytes first arguments) is)
