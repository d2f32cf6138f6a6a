-- A reader, and then another for what stands behind: exact where both are.
use Rattle.std.proofs.Common.{◌≡◌, ◌∙◌, ℕ, true, List, [], ◌∷◌, ◌++◌, length, take, Ok, Err, refl, sym, ap, subst, append_assoc}
use Rattle.std.proofs.lemmas.List.{append-nil}
use Rattle.dsm_base.specs.BigEndian.{IsBytes}
use Rattle.dsm_fields.specs.Fields.{Field, are_fit, bytes_of, Reaches, NoneGoesOn, IsCut, Breaks}
use Rattle.dsm_fields.specs.Reading.{Fault, Cut, Broken, Read, then_with}
use Rattle.dsm_fields.proofs.Loops.{bytes_append}
use Rattle.dsm_fields.proofs.Exact.{Took, Exact, fit_parts, fit_both, small_rest, same_rest, first, second, where_is, nothing_before}

-- one of these, of which a part is known
pub record At {A Z : Type 0} (Is : Z → Type 0) (from : Z → A) (a : A) (z : Z) : Type 0 where
  pub is : Is z
  pub same : from z ≡ a

-- ---- where a reader in two steps ends

data Ran {A B : Type 0} (read : Read A) (next : A → List ℕ → Read B) (end : Read B) : Type 0 where
  ran : (a : A) (mid : List ℕ) → read ≡ Ok (a, mid) → next a mid ≡ end → Ran read next end
  failed : (fault : Fault) → read ≡ Err fault → end ≡ Err fault → Ran read next end

run : {A B : Type 0} (read : Read A) (next : A → List ℕ → Read B) (end : Read B) → then_with read next ≡ end → Ran read next end
run (Ok x) next end e = ran x.0 x.1 refl e
run (Err fault) next end e = failed fault refl (sym e)

pub regroup : (front back : List Field) (rest : List ℕ) → bytes_of (front ++ back) ++ rest ≡ bytes_of front ++ (bytes_of back ++ rest)
regroup front back rest = ap (λ (w : List ℕ). w ++ rest) (bytes_append front back) ∙ append_assoc (bytes_of front) (bytes_of back) rest

record Parts {A Z : Type 0} (IsA : A → Type 0) (fa : A → List Field) (ra : List ℕ → Read A) (Is : Z → Type 0) (from : Z → A) (fb : Z → List Field) (rb : A → List ℕ → Read Z) : Type 0 where
  ea : Exact IsA fa ra
  eb : (a : A) → IsA a → are_fit (fa a) ≡ true → Exact (At Is from a) fb (rb a)
  some : (a : A) → IsA a → (z : Z) × At Is from a z
  isa : (z : Z) → Is z → IsA (from z)

module _ {A Z : Type 0} (IsA : A → Type 0) (fa : A → List Field) (ra : List ℕ → Read A) (Is : Z → Type 0) (from : Z → A) (fb : Z → List Field) (rb : A → List ℕ → Read Z) (p : Parts IsA fa ra Is from fb rb) where
  abbrev fields : Z → List Field
  fields z = fa (from z) ++ fb z

  abbrev read : List ℕ → Read Z
  read bytes = then_with (ra bytes) rb

  took : (bytes : List ℕ) (value : Z) (rest : List ℕ) → IsBytes bytes → read bytes ≡ Ok (value, rest) → Took Is fields bytes value rest
  took bytes value rest small e =
      elim (run (ra bytes) rb (Ok (value, rest)) e) [
        | ran a mid e1 e2 ↦
            let one = p.ea.took bytes a mid small e1 in
            let two = (p.eb a one.is one.fit).took mid value rest one.small e2 in
            let parts : bytes ≡ bytes_of (fa a ++ fb value) ++ rest = one.parts ∙ ap (λ (w : List ℕ). bytes_of (fa a) ++ w) two.parts ∙ sym (regroup (fa a) (fb value) rest) in
            record {
              is = two.is.is;
              fit = subst (λ (x : A). are_fit (fa x ++ fb value) ≡ true) (sym two.is.same) (fit_both (fa a) (fb value) one.fit two.fit);
              parts = subst (λ (x : A). bytes ≡ bytes_of (fa x ++ fb value) ++ rest) (sym two.is.same) parts;
              small = two.small;
            }
        | failed fault e1 e2 ↦ absurd cc
      ]

  again : (value : Z) (rest : List ℕ) → Is value → are_fit (fields value) ≡ true → read (bytes_of (fields value) ++ rest) ≡ Ok (value, rest)
  again value rest is fit =
      let fits = fit_parts (fa (from value)) (fb value) fit in
      let one = p.ea.again (from value) (bytes_of (fb value) ++ rest) (p.isa value is) fits.0 in
      let two = (p.eb (from value) (p.isa value is) fits.0).again value rest (record { is = is; same = refl }) fits.1 in
      ap read (regroup (fa (from value)) (fb value) rest) ∙ ap (λ (r : Read A). then_with r rb) one ∙ two

  apart : (a b : Z) (more others : List Field) → Is a → Is b → are_fit (fields a) ≡ true → fields a ++ more ≡ fields b ++ others → a ≡ b
  apart a b more others isa isb fit e =
      let fits = fit_parts (fa (from a)) (fb a) fit in
      let wide : fa (from a) ++ (fb a ++ more) ≡ fa (from b) ++ (fb b ++ others) =
      sym (append_assoc (fa (from a)) (fb a) more) ∙ e ∙ append_assoc (fa (from b)) (fb b) others in
      let same : from a ≡ from b = p.ea.apart (from a) (from b) (fb a ++ more) (fb b ++ others) (p.isa a isa) (p.isa b isb) fits.0 wide in
      let behind : fb a ++ more ≡ fb b ++ others =
      same_rest (fa (from b)) (fb a ++ more) (fb b ++ others) (subst (λ (x : A). fa x ++ (fb a ++ more) ≡ fa (from b) ++ (fb b ++ others)) same wide) in
      (p.eb (from b) (p.isa b isb) (subst (λ (x : A). are_fit (fa x) ≡ true) same fits.0)).apart a b more others (record { is = isa; same = same }) (record { is = isb; same = refl }) fits.1 behind

  -- a place in the first part, and one in the second

  in_first : (bytes : List ℕ) (a : A) (front : List Field) (field : Field) (left : List ℕ) (z : Z) → At Is from a z → Reaches fa bytes a front field left → Reaches fields bytes z front field left
  in_first bytes a front field left z at reaches = record {
    back = reaches.back ++ fb z;
    parts = ap (λ (x : A). fa x ++ fb z) at.same ∙ ap (λ (xs : List Field). xs ++ fb z) reaches.parts ∙ append_assoc front (field ∷ reaches.back) (fb z);
    fit = reaches.fit;
    goes = reaches.goes;
  }

  in_second : (bytes : List ℕ) (a : A) (mid : List ℕ) (front : List Field) (field : Field) (left : List ℕ) (z : Z) → Took IsA fa bytes a mid → At Is from a z → Reaches fb mid z front field left
      → Reaches fields bytes z (fa a ++ front) field left
  in_second bytes a mid front field left z one at reaches = record {
    back = reaches.back;
    parts = ap (λ (x : A). fa x ++ fb z) at.same ∙ ap (λ (xs : List Field). fa a ++ xs) reaches.parts ∙ sym (append_assoc (fa a) front (field ∷ reaches.back));
    fit = fit_both (fa a) front one.fit reaches.fit;
    goes = one.parts ∙ ap (λ (w : List ℕ). bytes_of (fa a) ++ w) reaches.goes ∙ sym (regroup (fa a) front left);
  }

  cut : (bytes : List ℕ) (left : ℕ) → IsBytes bytes → read bytes ≡ Err (Cut left) → IsCut Is fields bytes left
  cut bytes left small e =
      elim (run (ra bytes) rb (Err (Cut left)) e) [
        | ran a mid e1 e2 ↦
            let one = p.ea.took bytes a mid small e1 in
            let c = (p.eb a one.is one.fit).cut mid left one.small e2 in
            record { value = c.value; is = c.is.is; front = fa a ++ c.front; field = c.field; rest = c.rest; reaches = in_second bytes a mid c.front c.field c.rest c.value one c.is c.reaches; short = c.short; at = c.at }
        | failed fault e1 e2 ↦
            let c = p.ea.cut bytes left small cc in
            let z = p.some c.value c.is in
            record { value = z.0; is = z.1.is; front = c.front; field = c.field; rest = c.rest; reaches = in_first bytes c.value c.front c.field c.rest z.0 z.1 c.reaches; short = c.short; at = c.at }
      ]

  -- no other value goes on, seen from the first part and from the second

  none_first : (bytes : List ℕ) (a : A) (front : List Field) (field : Field) (left x : List ℕ) → IsA a → Reaches fa bytes a front field left → NoneGoesOn IsA fa front x → NoneGoesOn Is fields front x
  none_first bytes a front field left x isa reaches none z other back is parts same =
      elim (where_is (fa (from z)) (fb z) front other back parts) [
        | first behind e ↦ none (from z) other behind (p.isa z is) e same
        | second before e1 e2 ↦
            let fit = fit_parts (fa (from z)) before (subst (λ (w : List Field). are_fit w ≡ true) e1 reaches.fit) in
            let long : fa (from z) ++ (before ++ field ∷ reaches.back) ≡ fa a ++ [] =
            sym (append_assoc (fa (from z)) before (field ∷ reaches.back)) ∙ ap (λ (w : List Field). w ++ field ∷ reaches.back) (sym e1) ∙ sym reaches.parts ∙ sym (append-nil (fa a)) in
            let one : from z ≡ a = p.ea.apart (from z) a (before ++ field ∷ reaches.back) [] (p.isa z is) isa fit.0 long in
            absurd (nothing_before before field reaches.back (sym (same_rest (fa a) (before ++ field ∷ reaches.back) [] (subst (λ (w : A). fa w ++ (before ++ field ∷ reaches.back) ≡ fa a ++ []) one long))))
      ]

  none_second : (a : A) (front : List Field) (x : List ℕ) → IsA a → are_fit (fa a) ≡ true → NoneGoesOn (At Is from a) fb front x → NoneGoesOn Is fields (fa a ++ front) x
  none_second a front x isa fit none z other back is parts same =
      let wide : fa a ++ (front ++ other ∷ back) ≡ fa (from z) ++ fb z = sym (append_assoc (fa a) front (other ∷ back)) ∙ sym parts in
      let one : a ≡ from z = p.ea.apart a (from z) (front ++ other ∷ back) (fb z) isa (p.isa z is) fit wide in
      let behind : front ++ other ∷ back ≡ fb z = same_rest (fa (from z)) (front ++ other ∷ back) (fb z) (subst (λ (w : A). fa w ++ (front ++ other ∷ back) ≡ fa (from z) ++ fb z) one wide) in
      none z other back (record { is = is; same = sym one }) (sym behind) same

  broke : (bytes : List ℕ) (left : ℕ) → IsBytes bytes → read bytes ≡ Err (Broken left) → Breaks Is fields bytes left
  broke bytes left small e =
      elim (run (ra bytes) rb (Err (Broken left)) e) [
        | ran a mid e1 e2 ↦
            let one = p.ea.took bytes a mid small e1 in
            let b = (p.eb a one.is one.fit).broke mid left one.small e2 in
            record { value = b.value; is = b.is.is; front = fa a ++ b.front; field = b.field; rest = b.rest; reaches = in_second bytes a mid b.front b.field b.rest b.value one b.is b.reaches; whole = b.whole; at = b.at; none = none_second a b.front _ one.is one.fit b.none }
        | failed fault e1 e2 ↦
            let b = p.ea.broke bytes left small cc in
            let z = p.some b.value b.is in
            record { value = z.0; is = z.1.is; front = b.front; field = b.field; rest = b.rest; reaches = in_first bytes b.value b.front b.field b.rest z.0 z.1 b.reaches; whole = b.whole; at = b.at; none = none_first bytes b.value b.front b.field b.rest _ b.is b.reaches b.none }
      ]

  -- what is known of bytes that reach a field, by the part in which it is

  reads_first : (bytes : List ℕ) (z : Z) (front before : List Field) (field : Field) (left : List ℕ) → IsBytes bytes → Is z → Reaches fields bytes z front field left → front ≡ fa (from z) ++ before
      → (ra bytes ≡ Ok (from z, bytes_of before ++ left)) × (are_fit (fa (from z)) ≡ true) × IsBytes (bytes_of before ++ left)
  reads_first bytes z front before field left small is reaches e =
      let fit = fit_parts (fa (from z)) before (subst (λ (w : List Field). are_fit w ≡ true) e reaches.fit) in
      let goes : bytes ≡ bytes_of (fa (from z)) ++ (bytes_of before ++ left) = reaches.goes ∙ ap (λ (w : List Field). bytes_of w ++ left) e ∙ regroup (fa (from z)) before left in
      (ap ra goes ∙ p.ea.again (from z) (bytes_of before ++ left) (p.isa z is) fit.0, fit.0, small_rest (bytes_of (fa (from z))) (bytes_of before ++ left) (subst IsBytes goes small))

  behind_first : (bytes : List ℕ) (z : Z) (front before : List Field) (field : Field) (left : List ℕ) (reaches : Reaches fields bytes z front field left) → front ≡ fa (from z) ++ before
      → fb z ≡ before ++ field ∷ reaches.back → Reaches fb (bytes_of before ++ left) z before field left
  behind_first bytes z front before field left reaches e parts = record {
    back = reaches.back;
    parts = parts;
    fit = (fit_parts (fa (from z)) before (subst (λ (w : List Field). are_fit w ≡ true) e reaches.fit)).1;
    goes = refl;
  }

  ends : (bytes : List ℕ) (left : ℕ) → IsBytes bytes → IsCut Is fields bytes left → read bytes ≡ Err (Cut left)
  ends bytes left small c =
      elim (where_is (fa (from c.value)) (fb c.value) c.front c.field c.reaches.back c.reaches.parts) [
        | first behind e ↦
            ap (λ (r : Read A). then_with r rb) (p.ea.ends bytes left small (record { value = from c.value; is = p.isa c.value c.is; front = c.front; field = c.field; rest = c.rest; reaches = record { back = behind; parts = e; fit = c.reaches.fit; goes = c.reaches.goes }; short = c.short; at = c.at }))
        | second before e1 e2 ↦
            let one = reads_first bytes c.value c.front before c.field c.rest small c.is c.reaches e1 in
            ap (λ (r : Read A). then_with r rb) one.0
            ∙ (p.eb (from c.value) (p.isa c.value c.is) one.1).ends (bytes_of before ++ c.rest) left one.2
            (record { value = c.value; is = record { is = c.is; same = refl }; front = before; field = c.field; rest = c.rest; reaches = behind_first bytes c.value c.front before c.field c.rest c.reaches e1 e2; short = c.short; at = c.at })
      ]

  breaks : (bytes : List ℕ) (left : ℕ) → IsBytes bytes → Breaks Is fields bytes left → read bytes ≡ Err (Broken left)
  breaks bytes left small b =
      elim (where_is (fa (from b.value)) (fb b.value) b.front b.field b.reaches.back b.reaches.parts) [
        | first behind e ↦
            let none : NoneGoesOn IsA fa b.front (take (length b.field.bytes) b.rest) = λ a other back isa parts same.
            let z = p.some a isa in
            b.none z.0 other (back ++ fb z.0) z.1.is
            (ap (λ (x : A). fa x ++ fb z.0) z.1.same ∙ ap (λ (xs : List Field). xs ++ fb z.0) parts ∙ append_assoc b.front (other ∷ back) (fb z.0)) same in
            ap (λ (r : Read A). then_with r rb) (p.ea.breaks bytes left small (record { value = from b.value; is = p.isa b.value b.is; front = b.front; field = b.field; rest = b.rest; reaches = record { back = behind; parts = e; fit = b.reaches.fit; goes = b.reaches.goes }; whole = b.whole; at = b.at; none = none }))
        | second before e1 e2 ↦
            let one = reads_first bytes b.value b.front before b.field b.rest small b.is b.reaches e1 in
            let none : NoneGoesOn (At Is from (from b.value)) fb before (take (length b.field.bytes) b.rest) = λ z other back at parts same.
            b.none z other back at.is
            (ap (λ (x : A). fa x ++ fb z) at.same ∙ ap (λ (xs : List Field). fa (from b.value) ++ xs) parts ∙ sym (append_assoc (fa (from b.value)) before (other ∷ back)) ∙ ap (λ (xs : List Field). xs ++ other ∷ back) (sym e1)) same in
            ap (λ (r : Read A). then_with r rb) one.0
            ∙ (p.eb (from b.value) (p.isa b.value b.is) one.1).breaks (bytes_of before ++ b.rest) left one.2
            (record { value = b.value; is = record { is = b.is; same = refl }; front = before; field = b.field; rest = b.rest; reaches = behind_first bytes b.value b.front before b.field b.rest b.reaches e1 e2; whole = b.whole; at = b.at; none = none })
      ]

pub chain : {A Z : Type 0} (IsA : A → Type 0) (fa : A → List Field) (ra : List ℕ → Read A) (Is : Z → Type 0) (from : Z → A) (fb : Z → List Field) (rb : A → List ℕ → Read Z)
    → Exact IsA fa ra
    → ((a : A) → IsA a → are_fit (fa a) ≡ true → Exact (At Is from a) fb (rb a))
    → ((a : A) → IsA a → (z : Z) × At Is from a z)
    → ((z : Z) → Is z → IsA (from z))
    → Exact Is (λ z. fa (from z) ++ fb z) (λ bytes. then_with (ra bytes) rb)
chain IsA fa ra Is from fb rb ea eb some isa =
    let p : Parts IsA fa ra Is from fb rb = record { ea = ea; eb = eb; some = some; isa = isa } in
    record {
      took = took IsA fa ra Is from fb rb p;
      again = again IsA fa ra Is from fb rb p;
      apart = apart IsA fa ra Is from fb rb p;
      cut = cut IsA fa ra Is from fb rb p;
      broke = broke IsA fa ra Is from fb rb p;
      ends = ends IsA fa ra Is from fb rb p;
      breaks = breaks IsA fa ra Is from fb rb p;
    }
