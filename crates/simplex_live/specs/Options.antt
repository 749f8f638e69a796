-- What the arguments of `audit_live` begin with.
use Rattle.std.specs.Prelude.{◌≡◌, ℕ, ◌-◌, ◌^◌, List, ◌∷◌, Option, None, Some, codes, max, min, option_map}
use Rattle.simplex_lead.specs.declared.lookahead.Lookahead.{Lookahead}
use Rattle.simplex_cli.specs.Options.{AreBehindOption, BeginWith}
use Rattle.simplex_rules.specs.Independence.{first_round}
use Rattle.simplex_monitor.specs.Window.{first_window}
use Rattle.simplex_monitor.specs.declared.window.Window.{Window}
use Rattle.simplex_live.specs.declared.options.Options.{Options}

-- the words are how many views are retained, 1,000 unless said, how many are looked ahead, 10 unless said, and words behind
abbrev pub AreBehindWindow : List (List ℕ) → ℕ → ℕ → List (List ℕ) → Type 0
AreBehindWindow words retained ahead behind =
    (between : List (List ℕ)) × AreBehindOption (codes "--retain") 1000 words retained between
    × AreBehindOption (codes "--ahead") 10 between ahead behind

-- the words are an option, a file's name and words behind it, or without the option there is no file
abbrev pub AreBehindFile : List ℕ → List (List ℕ) → Option (List ℕ) → List (List ℕ) → Type 0
AreBehindFile option words (Some file) behind = words ≡ option ∷ file ∷ behind
AreBehindFile option words None behind = (BeginWith option words → ⊥) × (behind ≡ words)

-- the lookahead of so many views: terms of as many views, at least one and fewer than 2^32
abbrev pub lookahead_of : ℕ → Lookahead
lookahead_of ahead = record { term_length = max (min ahead (2 ^ 32 - 1)) 1; optimistic_views = ahead }

-- the window of `audit_live` as it begins
abbrev pub window_of : ℕ → ℕ → Window
window_of retained ahead = first_window first_round retained (lookahead_of ahead)

-- the words are the options, each in its place if it is there, and words behind them
abbrev pub AreBehindOptions : List (List ℕ) → Options → List (List ℕ) → Type 0
AreBehindOptions words options behind =
    (files states : List (List ℕ)) × AreBehindWindow words options.retained options.ahead files
    × AreBehindFile (codes "--keys") files (option_map (λ f. f.now) options.keys) states
    × AreBehindFile (codes "--state") states (option_map (λ f. f.now) options.state) behind
