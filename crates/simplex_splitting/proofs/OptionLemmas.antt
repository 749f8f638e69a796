-- Which words begin with options.
use Rattle.std.proofs.Common.{◌≡◌, ◌≢◌, ◌<◌, ◌≤◌, ◌^◌, ◌∙◌, ◌-◌, ◌+◌, arith, Option, ap, drop, get_or, inl, inr, length, map, take, ℕ, List, [], ◌∷◌, sym, subst}
use Rattle.std.specs.Global.{Global}
use Rattle.std.specs.Int.NonZero.{non_zero_u32_get}
use Rattle.std.specs.Prelude.{String, codes, decimal, string_bytes}
use Rattle.std.proofs.lemmas.Fmt.{decimal_injective}
use Rattle.simplex_cli.specs.OptionLaws.{behind_alone, drop_twice, words_behind}
use Rattle.simplex_cli.specs.Options.{AreBehindOption}
use Rattle.simplex_cli.specs.declared.verdicts.SignatureSize.{SignatureSize}
use Rattle.simplex_splitting.specs.Options.{AreBehindHead, AreBehindOptions, AreOfCut, bytes_signed}
use Rattle.simplex_splitting.specs.declared.options.Division.{Division}
use Rattle.simplex_splitting.specs.declared.options.Options.{Options}

-- one number stands behind an option
number_alone : (option : List ℕ) (otherwise : ℕ) (words behind others : List (List ℕ)) (number another : ℕ) →
    AreBehindOption option otherwise words number behind → AreBehindOption option otherwise words another others →
    number ≡ another
number_alone option otherwise words behind others number another (inl given) (inl again) =
    let same = sym given.0 ∙ again.0 in
    decimal_injective number another given.1 again.1 cc
number_alone option otherwise words behind others number another (inl given) (inr none) = absurd (none.0 (_, given.0))
number_alone option otherwise words behind others number another (inr none) (inl given) = absurd (none.0 (_, given.0))
number_alone option otherwise words behind others number another (inr none) (inr again) = none.1 ∙ sym again.1

-- ---- signatures and the seed

module _ (words : List (List ℕ)) where
  -- words without a number behind the first option
  pub no_first : ((number : ℕ) (behind : List (List ℕ)) → ¬ AreBehindOption (codes "--signature") 32 words number behind) →
      (signature : Option SignatureSize) (seed : ℕ) (behind : List (List ℕ)) → ¬ AreBehindHead words signature seed behind
  no_first none signature seed behind (between, first, second) = none (bytes_signed signature) between first

  module _ (between : List (List ℕ)) (bytes : ℕ) (here : AreBehindOption (codes "--signature") 32 words bytes between) where
    -- with a number that is no size
    pub no_size : ((size : Option SignatureSize) → bytes ≢ bytes_signed size) →
        (signature : Option SignatureSize) (seed : ℕ) (behind : List (List ℕ)) → ¬ AreBehindHead words signature seed behind
    no_size none signature seed behind (others, first, second) =
        none signature (number_alone (codes "--signature") 32 words between others bytes (bytes_signed signature) here first)

    -- without a number behind the second option
    pub no_seed : ((number : ℕ) (behind : List (List ℕ)) → ¬ AreBehindOption (codes "--seed") 0 between number behind) →
        (signature : Option SignatureSize) (seed : ℕ) (behind : List (List ℕ)) → ¬ AreBehindHead words signature seed behind
    no_seed none signature seed behind (others, first, second) =
        none seed behind (subst (λ ws. AreBehindOption (codes "--seed") 0 ws seed behind)
        (sym (behind_alone (codes "--signature") 32 words between others bytes (bytes_signed signature) here first)) second)

  -- the same words stand behind both, whichever these are
  head_alone : (behind others : List (List ℕ)) (signature signature' : Option SignatureSize) (seed seed' : ℕ) →
      AreBehindHead words signature seed behind → AreBehindHead words signature' seed' others → behind ≡ others
  head_alone behind others signature signature' seed seed' (between, first, second) (between', first', second') =
      let same = behind_alone (codes "--signature") 32 words between between' (bytes_signed signature)
      (bytes_signed signature') first first' in
      behind_alone (codes "--seed") 0 between' behind others seed seed'
      (subst (λ ws. AreBehindOption (codes "--seed") 0 ws seed behind) same second) second'

  -- words without these are no options
  pub no_head : ((signature : Option SignatureSize) (seed : ℕ) (behind : List (List ℕ)) →
      ¬ AreBehindHead words signature seed behind) →
      (options : Options) (files : List (List ℕ)) → ¬ AreBehindOptions words options files
  no_head none options files (between, head, cut) = none options.signature options.seed between head

  -- nor are words without a division behind them
  pub no_division : (behind : List (List ℕ)) (signature : Option SignatureSize) (seed : ℕ) →
      AreBehindHead words signature seed behind →
      ((division : Division) (files : List (List ℕ)) → ¬ AreOfCut behind division files) →
      (options : Options) (files : List (List ℕ)) → ¬ AreBehindOptions words options files
  no_division behind signature seed here none options files (between, head, cut) =
      none options.division files (subst (λ ws. AreOfCut ws options.division files)
      (head_alone between behind options.signature signature options.seed seed head here) cut)

-- ---- the division

-- the text of a number is that of no other
pub no_other : (text : List ℕ) (number another : ℕ) → number < 2 ^ 64 → another < 2 ^ 64 → text ≡ decimal number →
    text ≡ decimal another → number ≡ another
no_other text number another small small' is is' = decimal_injective number another small small' (sym is ∙ is')

-- three words and one or more behind them
pub four_words : (words : List (String Global)) (first second third : String Global) → 4 ≤ length words →
    first ≡ get_or words 0 first → second ≡ get_or words 1 second → third ≡ get_or words 2 third →
    (map string_bytes words ≡ string_bytes first ∷ string_bytes second ∷ string_bytes third ∷ drop 3 (map string_bytes words))
    × (drop 3 (map string_bytes words) ≢ [])
four_words [] first second third many one two three = absurd (omega (arith, many))
four_words (a ∷ []) first second third many one two three = absurd (omega (arith, many))
four_words (a ∷ b ∷ []) first second third many one two three = absurd (omega (arith, many))
four_words (a ∷ b ∷ c ∷ []) first second third many one two three = absurd (omega (arith, many))
four_words (a ∷ b ∷ c ∷ d ∷ words) first second third many one two three = (
  ap (λ w. string_bytes w ∷ string_bytes b ∷ string_bytes c ∷ string_bytes d ∷ map string_bytes words) (sym one)
      ∙ ap (λ w. string_bytes first ∷ string_bytes w ∷ string_bytes c ∷ string_bytes d ∷ map string_bytes words) (sym two)
      ∙ ap (λ w. string_bytes first ∷ string_bytes second ∷ string_bytes w ∷ string_bytes d ∷ map string_bytes words)
      (sym three),
  λ e. absurd cc,
)

-- fewer are none of a cut
pub too_few : (words : List (String Global)) → length words < 4 → (division : Division) (files : List (List ℕ)) →
    ¬ AreOfCut (map string_bytes words) division files
too_few [] few division files (is, bound, classes, some) = absurd cc
too_few (a ∷ []) few division files (is, bound, classes, some) = absurd cc
too_few (a ∷ b ∷ []) few division files (is, bound, classes, some) = absurd cc
too_few (a ∷ b ∷ c ∷ []) few division files (is, bound, classes, some) =
    let none : files ≡ [] = cc in some none
too_few (a ∷ b ∷ c ∷ d ∷ words) few division files cut = absurd (omega (arith, few))

-- the first of them is no bound
pub no_bound : (words : List (String Global)) (first second third : String Global) → 4 ≤ length words →
    first ≡ get_or words 0 first → second ≡ get_or words 1 second → third ≡ get_or words 2 third →
    ((number : ℕ) → 1 ≤ number → number ≤ 4294967295 → string_bytes first ≢ decimal number) →
    (division : Division) (files : List (List ℕ)) → ¬ AreOfCut (map string_bytes words) division files
no_bound words first second third many one two three none division files (is, bound, classes, some) =
    let same = sym (four_words words first second third many one two three).0 ∙ is in
    none (non_zero_u32_get division.bound) (omega (arith, division.bound.ok)) (omega (arith, bound)) cc

-- or the second no number of classes
pub no_classes : (words : List (String Global)) (first second third : String Global) → 4 ≤ length words →
    first ≡ get_or words 0 first → second ≡ get_or words 1 second → third ≡ get_or words 2 third →
    ((number : ℕ) → 1 ≤ number → number ≤ 65536 → string_bytes second ≢ decimal number) →
    (division : Division) (files : List (List ℕ)) → ¬ AreOfCut (map string_bytes words) division files
no_classes words first second third many one two three none division files (is, bound, classes, some) =
    let same = sym (four_words words first second third many one two three).0 ∙ is in
    none (non_zero_u32_get division.classes) (omega (arith, division.classes.ok)) classes cc

-- ---- all

-- no division among the words behind some
pub no_division_behind : (count : ℕ) (arguments : List (String Global)) →
    ((division : Division) (files : List (List ℕ)) →
    ¬ AreOfCut (map string_bytes (take (length arguments - count) (drop count arguments))) division files) →
    (division : Division) (files : List (List ℕ)) → ¬ AreOfCut (drop count (map string_bytes arguments)) division files
no_division_behind count arguments =
    subst (λ (ws : List (List ℕ)). (division : Division) (files : List (List ℕ)) → ¬ AreOfCut ws division files)
    (words_behind string_bytes count arguments)

-- a division among them
pub division_behind : (count : ℕ) (arguments : List (String Global)) (division : Division) →
    AreOfCut (map string_bytes (take (length arguments - count) (drop count arguments))) division
    (drop 3 (map string_bytes (take (length arguments - count) (drop count arguments)))) →
    AreOfCut (drop count (map string_bytes arguments)) division (drop (count + 3) (map string_bytes arguments))
division_behind count arguments division is =
    subst (AreOfCut (drop count (map string_bytes arguments)) division)
    (drop_twice count 3 (map string_bytes arguments))
    (subst (λ (ws : List (List ℕ)). AreOfCut ws division (drop 3 ws)) (words_behind string_bytes count arguments) is)

-- the words behind the options, as a slice of the arguments
pub options_behind : (count : ℕ) (arguments : List (String Global)) (options : Options) →
    AreBehindOptions (map string_bytes arguments) options (drop count (map string_bytes arguments)) →
    AreBehindOptions (map string_bytes arguments) options
    (map string_bytes (take (length arguments - count) (drop count arguments)))
options_behind count arguments options =
    subst (AreBehindOptions (map string_bytes arguments) options) (sym (words_behind string_bytes count arguments))
