use Rattle.std.proofs.Common.{◌≡◌, ℕ, Bool, true, false, ◌&&◌, List, [], ◌∷◌, ◌++◌, None, OnOk, OnErr, Result, Ok, Err, Vec, Global, sym, ap, ◌∙◌, subst}
use Rattle.std.specs.Prelude.{bytes_eq, IsTrue}
use Rattle.indexmap.proofs.CallerLemmas.{insert_entry-new}
use Rattle.dsm_check.specs.declared.names.Named.{Named}
use Rattle.dsm_check.specs.Environments.{Entry, known, meaning}
use Rattle.dsm_check.specs.Tables.{IsFound, shown}
use Rattle.dsm_check.specs.Numbers.{is_numbered}
use Rattle.dsm_check.proofs.Tables.{shown-push, found-push}
use Rattle.dsm_check.proofs.names.Names.add.Goals as goal

abbrev text : Vec ℕ Global → List ℕ
text key = key.items

both : (a b : Bool) → IsTrue a → IsTrue b → IsTrue (a && b)
both true b x y = y
both false b x y = x

-- what holds after an entry came, or none did
after : {V E : Type 0} (P : List (Vec ℕ Global × Named) → Type 0) (r : Result V E) (old new inserted more : List (Vec ℕ Global × Named))
    → OnOk r (new ≡ inserted) → inserted ≡ more → OnErr r (new ≡ old) → P old → P more → P new
after P (Ok v) old new inserted more ok same err before now = subst P (sym (ok ∙ same)) now
after P (Err e) old new inserted more ok same err before now = subst P (sym err) before

pub invariant_of-self-2 : goal.invariant_of-self-2
invariant_of-self-2 c =
    let table = c.args.self.now in
    let entries = table.map.entries in
    let key = c.in_ok-from_slice.field-0 in
    let named = c.args.named in
    let absent : meaning (shown text entries) key.items ≡ None
    = ap (meaning (shown text entries)) c.in_ok-from_slice.ensures.items ∙ c.requires.new in
    let pushed = insert_entry-new (λ a b. bytes_eq a.items b.items) table.map key named (table.found key.items ∙ absent) in
    let P : List (Vec ℕ Global × Named) → Type 0 = λ es. IsTrue (is_numbered (shown text es)) in
    let Q : List Entry → Type 0 = λ es. IsTrue (is_numbered es) in
    let R : List (Vec ℕ Global × Named) → Type 0 = IsFound text in
    record {
      found = after R c.insert.result entries c.insert.new.self.entries _ (entries ++ (key, named) ∷ []) c.insert.ensures.entries pushed c.insert.ensures.err table.found (found-push text entries key named table.found absent);
      numbered = after P c.insert.result entries c.insert.new.self.entries _ (entries ++ (key, named) ∷ []) c.insert.ensures.entries pushed c.insert.ensures.err table.numbered (subst Q (sym (shown-push text entries key named)) (both _ _ c.requires.next table.numbered));
    }

pub returns : goal.returns
returns c =
    let table = c.args.self.now in
    let key = c.in_ok-from_slice.field-0 in
    let named = c.args.named in
    let absent : meaning (shown text table.map.entries) key.items ≡ None
    = ap (meaning (shown text table.map.entries)) c.in_ok-from_slice.ensures.items ∙ c.requires.new in
    let pushed = insert_entry-new (λ a b. bytes_eq a.items b.items) table.map key named (table.found key.items ∙ absent) in
    ap (shown text) (c.in_ok-insert.ensures.entries ∙ pushed)
    ∙ shown-push text table.map.entries key named
    ∙ ap (λ name. known name named ∷ shown text table.map.entries) c.in_ok-from_slice.ensures.items
