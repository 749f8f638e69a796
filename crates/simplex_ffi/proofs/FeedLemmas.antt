-- Ranges that are fed one after another.
use Rattle.std.proofs.Common.{◌≡◌, ◌+◌, ◌<◌, ◌^◌, ℕ, List, [], ◌∷◌, ◌++◌, length, take, drop, get_or, sym, ap, subst, ◌∙◌, arith, append-nil}
use Rattle.std.specs.List.{flat_map, sum_by}
use Rattle.std.proofs.lemmas.Grind.{flat_map-append}
use Rattle.std.proofs.lemmas.List.{drop_more, take_more}
use Rattle.std.proofs.lemmas.List.Sums.{sum_by-cons}
use Rattle.simplex_scheme.specs.Committees.{Schedule}
use Rattle.simplex_audit.specs.Auditor.{Stands}
use Rattle.simplex_audit.specs.Basis.{Basis}
use Rattle.simplex_audit.specs.declared.auditor.Auditor.{Auditor}
use Rattle.simplex_shards.specs.Ranges.{bytes_of_ranges, range_bytes}
use Rattle.simplex_shards.specs.declared.ranges.Range.{Range}

-- one range more
pub one_more : (stream : List ℕ) (rs : List Range) (i : ℕ) (d : Range) → i < length rs →
    bytes_of_ranges stream (take i rs) ++ range_bytes stream (get_or rs i d) ≡ bytes_of_ranges stream (take (i + 1) rs)
one_more stream rs i d within =
    let r = get_or rs i d in
    ap (λ (t : List ℕ). bytes_of_ranges stream (take i rs) ++ t) (sym (append-nil (range_bytes stream r)))
    ∙ (sym (flat_map-append (range_bytes stream) (take i rs) (r ∷ []))
    ∙ ap (flat_map (range_bytes stream)) (sym (take_more rs i d within)))

-- there is room for the next range, and then for the others
pub room_for : (rs : List Range) (i fed : ℕ) (d : Range) → i < length rs →
    fed + sum_by (λ r. r.length) (drop i rs) ≡ sum_by (λ r. r.length) rs → sum_by (λ r. r.length) rs < 2 ^ 64 →
    (fed + (get_or rs i d).length < 2 ^ 64)
    × (fed + (get_or rs i d).length + sum_by (λ r. r.length) (drop (i + 1) rs) ≡ sum_by (λ r. r.length) rs)
room_for rs i fed d within all few =
    let more = ap (sum_by (λ (r : Range). r.length)) (drop_more rs i d within)
    ∙ sum_by-cons (λ (r : Range). r.length) (get_or rs i d) (drop (i + 1) rs) in
    (omega (arith, more, all, few), omega (arith, more, all))

-- an auditor stands for a stream that is the same
pub stands_for_same : {S D C P G : Type 0} (basis : Schedule S → Basis S D C P G) (committees : Schedule S)
    (auditor : Auditor S D P G) (stream other : List ℕ) → stream ≡ other → Stands basis committees auditor stream →
    Stands basis committees auditor other
stands_for_same basis committees auditor stream other same =
    subst (λ (bytes : List ℕ). Stands basis committees auditor bytes) same
