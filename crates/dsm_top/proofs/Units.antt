-- Units of a schedule from its front, and what their traces put out.
use Rattle.std.specs.Prelude.{◌≡◌, ◌≤◌, ◌<◌, ℕ, zero, suc, ◌+◌, List, [], ◌∷◌, ◌++◌, length, take, reverse}
use Rattle.std.specs.List.{AllByRecursion}
use Rattle.std.proofs.Common.{sym, ap, ◌∙◌, arith, subst, append-nil, append_assoc}
use Rattle.std.proofs.Math.ListN.{get_or}
use Rattle.std.proofs.lemmas.List.{take_more, reverse-append, length-reverse}
use Rattle.std.proofs.lemmas.Grind.{common_steps}
use Rattle.dsm_base.specs.Output.{printed_line}
use Rattle.dsm_net.specs.declared.trace.Rec.{Rec}
use Rattle.dsm_net.specs.declared.trace.Group.{Group}
use Rattle.dsm_net.specs.Fits.{with_unit}
use Rattle.dsm_records.specs.Outputs.{lines_of}
use Rattle.dsm_laws_history.specs.Output.{output_onto, output_of}
use Rattle.dsm_top.specs.Runs.{joined}

-- Fronts.

-- one more unit from the front, with the newest first
pub next_unit : {A : Type 0} → (items : List A) (index : ℕ) (item : A) → item ≡ get_or items index item → index < length items →
    reverse (take (index + 1) items) ≡ item ∷ reverse (take index items)
next_unit items index item is inside =
    ap reverse (take_more items index item inside) ∙ (reverse-append (take index items) (get_or items index item ∷ []) ∙ ap (λ one. one ∷ reverse (take index items)) (sym is))

pub front_length : {A : Type 0} → (items : List A) (count : ℕ) → count ≤ length items → length (reverse (take count items)) ≡ count
front_length items count within = length-reverse (take count items) ∙ grind (arith, common_steps, within)

-- what holds of each holds of one of them, and of each of a front
pub all_at : {A : Type 0} → (P : A → Type 0) (items : List A) (index : ℕ) (item : A) → AllByRecursion P items → item ≡ get_or items index item → index < length items → P item
all_at P [] index item all is inside = absurd (omega (arith, inside))
all_at P (first ∷ items) zero item all is inside = subst P (sym is) all.0
all_at P (first ∷ items) (suc index) item all is inside = all_at P items index item all.1 is (omega (arith, inside))

all_take : {A : Type 0} → (P : A → Type 0) (items : List A) (count : ℕ) → AllByRecursion P items → AllByRecursion P (take count items)
all_take P [] zero all = tt
all_take P [] (suc count) all = tt
all_take P (first ∷ items) zero all = tt
all_take P (first ∷ items) (suc count) all = (all.0, all_take P items count all.1)

all_push : {A : Type 0} (P : A → Type 0) (items : List A) (item : A) → AllByRecursion P items → P item → AllByRecursion P (items ++ item ∷ [])
all_push P [] item all one = (one, tt)
all_push P (first ∷ items) item all one = (all.0, all_push P items item all.1 one)

all_reverse : {A : Type 0} → (P : A → Type 0) (items : List A) → AllByRecursion P items → AllByRecursion P (reverse items)
all_reverse P [] all = tt
all_reverse P (first ∷ items) all =
    subst (AllByRecursion P) (sym (reverse-append (first ∷ []) items)) (all_push P (reverse items) first (all_reverse P items all.1) all.0)

pub all_front : {A : Type 0} → (P : A → Type 0) (items : List A) (count : ℕ) → AllByRecursion P items → AllByRecursion P (reverse (take count items))
all_front P items count all = all_reverse P (take count items) (all_take P items count all)

-- What goes out.

-- records put out their lines behind what went out before
out_behind : (before : List ℕ) (records : List Rec) → output_onto before records ≡ before ++ joined (lines_of records)
out_behind before [] = sym (append-nil before)
out_behind before (Rec.Out p turn text ∷ others) =
    out_behind (before ++ printed_line p.0 text) others ∙ append_assoc before (printed_line p.0 text) (joined (lines_of others))
out_behind before (Rec.Turn p turn label lines ∷ others) = out_behind before others
out_behind before (one ∷ others) = out_behind before others

-- a unit adds the lines of its records
pub lines_of_unit : (unit : ℕ) (records : List Rec) (before : List Group) → output_of (with_unit unit records before) ≡ output_of before ++ joined (lines_of records)
lines_of_unit unit [] before = sym (append-nil (output_of before))
lines_of_unit unit (one ∷ others) before = out_behind (output_of before) (one ∷ others)
