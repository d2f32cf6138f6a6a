-- A piece that goes out in parts.
use Rattle.std.specs.Prelude.{◌≡◌, ℕ, suc, ◌+◌, ◌-◌, ◌≤◌, ◌<◌, List, [], ◌∷◌, ◌++◌, length, take, drop, Option, Some, None}
use Rattle.std.proofs.Common.{refl, sym, ap, ◌∙◌, arith, append_assoc, append-nil}
use Rattle.std.proofs.lemmas.List.{take-append-drop, take-append-le, drop-take}
use Rattle.std.proofs.Math.Seq.{take-append-add, drop-cons}
use Rattle.std.proofs.Math.ListN.{get_or}
use Rattle.std.proofs.lemmas.Grind.{common_steps}
use Rattle.dsm_base.specs.Sink.{appended, TakesPart}

pub appended-appended : (held : Option (List ℕ)) (xs ys : List ℕ) → appended (appended held xs) ys ≡ appended held (xs ++ ys)
appended-appended None xs ys = refl
appended-appended (Some held) xs ys = ap Some (append_assoc held xs ys)

pub appended-nil : (held : Option (List ℕ)) → appended held [] ≡ held
appended-nil None = refl
appended-nil (Some held) = ap Some (append-nil held)

-- the bytes up to a place, and some of those behind it
take-behind : (done count : ℕ) (bytes : List ℕ) → take done bytes ++ take count (take (length bytes - done) (drop done bytes)) ≡ take (done + count) bytes
take-behind done count bytes =
    let all : take (length bytes - done) (drop done bytes) ≡ drop done bytes = grind (arith, common_steps) in
    let front : take done (take (done + count) bytes) ≡ take done bytes = grind (arith, common_steps) in
    (λ k. sym front k ++ (ap (take count) all ∙ sym (drop-take done count bytes)) k) ∙ take-append-drop done (take (done + count) bytes)

-- what a sink holds once it has taken more of a piece
pub more_taken : (held before now : Option (List ℕ)) (done count : ℕ) (bytes : List ℕ) → before ≡ appended held (take done bytes) →
    now ≡ appended before (take count (take (length bytes - done) (drop done bytes))) → now ≡ appended held (take (done + count) bytes)
more_taken held before now done count bytes e f =
    f ∙ ap (λ one. appended one (take count (take (length bytes - done) (drop done bytes)))) e
    ∙ appended-appended held (take done bytes) (take count (take (length bytes - done) (drop done bytes))) ∙ ap (appended held) (take-behind done count bytes)

-- what is taken of the next piece is taken of all
pub part_of : (held before now : Option (List ℕ)) (done piece rest : List ℕ) → before ≡ appended held done → TakesPart before now piece →
    TakesPart held now (done ++ (piece ++ rest))
part_of held before now done piece rest e part =
    let short : part.count ≤ length piece = omega (arith, part.proper) in
    let front : take (length done + part.count) (done ++ (piece ++ rest)) ≡ done ++ take part.count piece =
    take-append-add done (piece ++ rest) part.count ∙ ap (λ one. done ++ one) (take-append-le part.count piece rest short) in
    record {
      count = length done + part.count;
      proper = grind (arith, common_steps, part.proper);
      taken = part.taken ∙ ap (λ one. appended one (take part.count piece)) e ∙ appended-appended held done (take part.count piece) ∙ ap (appended held) (sym front);
    }

-- the item at an index stands before those behind it
pub drop_at : {A : Type 0} → (items : List A) (index : ℕ) (item : A) → item ≡ get_or items index item → index < length items → drop index items ≡ item ∷ drop (index + 1) items
drop_at items index item is inside =
    let next : suc index ≡ index + 1 = omega (arith) in
    drop-cons items index item inside ∙ (ap (λ one. one ∷ drop (suc index) items) (sym is) ∙ ap (λ n. item ∷ drop n items) next)

-- once a piece is taken whole
pub next_taken : (held before now : Option (List ℕ)) (done piece bytes : List ℕ) → before ≡ appended held done → now ≡ appended before bytes → bytes ≡ piece →
    now ≡ appended held (done ++ piece)
next_taken held before now done piece bytes e f same =
    f ∙ ap (λ one. appended one bytes) e ∙ appended-appended held done bytes ∙ ap (λ one. appended held (done ++ one)) same
