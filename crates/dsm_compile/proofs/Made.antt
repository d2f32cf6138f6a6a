-- Statements that are written from their end on.
use Rattle.std.proofs.Common.{◌≡◌, ℕ, ◌+◌, List, [], ◌∷◌, ◌++◌, length, Option, ap, sym, ◌∙◌, append_assoc, length-append}
use Rattle.dsm_check.specs.Resolved as r
use Rattle.dsm_code.specs.declared.instruction.Instr.{Instr}
use Rattle.dsm_code.specs.declared.parts.Row.{Row}
use Rattle.dsm_laws_code.specs.Instructions.{row}
use Rattle.dsm_laws_code.specs.Expressions.{expression_code, chosen_code}
use Rattle.dsm_laws_code.specs.Statements.{Exits, before, loop_exits, option_code, test_code, round_code, loop_code, statement_code, statement_prints}
use Rattle.dsm_compile.specs.Drafts.{Draft, with_code, with_statement}
use Rattle.dsm_compile.proofs.Writing.{Counts}

-- an `if`
pub whens_made : (exits : Exits) (test : r.Expression) (s : r.Statement) (count len : ℕ) (d one two : Draft) → one ≡ with_statement exits s d → len ≡ length d.rows → Counts one len count
    → two ≡ with_code (row 1 (Instr.SkipIfZero count) ∷ []) one → with_code (expression_code two.pieces 0 test) two ≡ with_statement exits (r.when test s) d
whens_made exits test s count len d one two h1 long counts h2 =
    let code = statement_code d.pieces exits (length d.prints) s in
    let value = expression_code d.pieces 0 test in
    let prints = d.prints ++ statement_prints s in
    let n : count ≡ length code = counts code d.rows (ap (λ x. x.rows) h1) (sym long) in
    let e2 : two ≡ with_code (row 1 (Instr.SkipIfZero count) ∷ []) (with_statement exits s d) = h2 ∙ ap (with_code (row 1 (Instr.SkipIfZero count) ∷ [])) h1 in
    ap (λ x. with_code (expression_code x.pieces 0 test) x) e2
    ∙ (λ i. record { pieces = d.pieces; rows = value ++ (row 1 (Instr.SkipIfZero (n i)) ∷ (code ++ d.rows)); prints = prints })
    ∙ ap (λ rows. record { pieces = d.pieces; rows = rows; prints = prints }) (sym (append_assoc value (row 1 (Instr.SkipIfZero (length code)) ∷ code) d.rows))

-- the part of an `if` with an `else`
pub parts_made : (exits within : Exits) (s : r.Statement) (others more count len : ℕ) (other rest : List Row) (d one two : Draft) → d.rows ≡ other ++ rest → others ≡ length other
    → more ≡ others + 1 → within ≡ before more exits → one ≡ with_code (row 0 (Instr.GoOn others) ∷ []) d → len ≡ length d.rows → two ≡ with_statement within s one → Counts two len count
    → with_code (row 1 (Instr.SkipIfZero count) ∷ []) two ≡ record {
      pieces = d.pieces;
      rows = chosen_code 1 0 (statement_code d.pieces (before (length other + 1) exits) (length d.prints) s) other ++ rest;
      prints = d.prints ++ statement_prints s;
    }
parts_made exits within s others more count len other rest d one two shown over is_more is_within h1 long h2 counts =
    let ex = before (length other + 1) exits in
    let g = row 0 (Instr.GoOn others) in
    let code = statement_code d.pieces ex (length d.prints) s in
    let prints = d.prints ++ statement_prints s in
    let same : within ≡ ex = is_within ∙ ap (λ n. before n exits) (is_more ∙ ap (λ n. n + 1) over) in
    let e2 : two ≡ with_statement ex s (with_code (g ∷ []) d) = h2 ∙ (λ i. with_statement (same i) s (h1 i)) in
    let rows : two.rows ≡ (code ++ (g ∷ [])) ++ d.rows = ap (λ x. x.rows) e2 ∙ sym (append_assoc code (g ∷ []) d.rows) in
    let n : count ≡ length code + 1 = counts (code ++ (g ∷ [])) d.rows rows (sym long) ∙ length-append code (g ∷ []) in
    ap (with_code (row 1 (Instr.SkipIfZero count) ∷ [])) e2
    ∙ (λ i. record { pieces = d.pieces; rows = row 1 (Instr.SkipIfZero (n i)) ∷ (code ++ (row 0 (Instr.GoOn (over i)) ∷ shown i)); prints = prints })
    ∙ ap (λ x. record { pieces = d.pieces; rows = row 1 (Instr.SkipIfZero (length code + 1)) ∷ x; prints = prints }) (sym (append_assoc code (row 0 (Instr.GoOn (length other)) ∷ other) rest))

-- a loop, of which the jump back is set in the end
pub loops_made : (exits : Exits) (test step : Option r.Expression) (s : r.Statement) (steps more round after behind : ℕ) (d one two three four five : Draft)
    → one ≡ with_code (row 0 (Instr.GoBack 0) ∷ []) d → after ≡ length d.rows → behind ≡ length one.rows → two ≡ with_code (option_code one.pieces step) one → Counts two behind steps
    → more ≡ steps + 1 → exits ≡ record { loop = more; body = 0 } → three ≡ with_statement exits s two
    → ((part rest : List Row) → three.rows ≡ part ++ rest → length rest ≡ after → four ≡ with_code (test_code three.pieces test (length part)) three) → Counts four behind round
    → ((part rest : List Row) → length rest ≡ after → four ≡ with_code (part ++ (row 0 (Instr.GoBack 0) ∷ [])) (record four { rows = rest })
    → five ≡ with_code (part ++ (row 0 (Instr.GoBack round) ∷ [])) (record four { rows = rest }))
    → five ≡ record {
      pieces = d.pieces;
      rows = loop_code d.pieces test (statement_code d.pieces (loop_exits (option_code d.pieces step)) (length d.prints) s) (option_code d.pieces step) ++ d.rows;
      prints = d.prints ++ statement_prints s;
    }
loops_made exits test step s steps more round after behind d one two three four five h1 is_after is_behind h2 count_steps is_more is_exits h3 tested count_round set_jump =
    let third = option_code d.pieces step in
    let b = row 0 (Instr.GoBack 0) in
    let ex = loop_exits third in
    let body = statement_code d.pieces ex (length d.prints) s in
    let prints = d.prints ++ statement_prints s in
    let is_length : length (b ∷ d.rows) ≡ behind = sym (is_behind ∙ ap (λ x. length x.rows) h1) in
    let e2 : two ≡ with_code third (with_code (b ∷ []) d) = h2 ∙ ap (λ x. with_code (option_code x.pieces step) x) h1 in
    let n_step : steps ≡ length third = count_steps third (b ∷ d.rows) (ap (λ x. x.rows) e2) is_length in
    let same : exits ≡ ex = is_exits ∙ ap (λ n. record { loop = n; body = 0 }) (is_more ∙ ap (λ n. n + 1) n_step) in
    let e3 : three ≡ with_statement ex s (with_code third (with_code (b ∷ []) d)) = h3 ∙ (λ i. with_statement (same i) s (e2 i)) in
    let left = body ++ (third ++ (b ∷ [])) in
    let rows3 : three.rows ≡ left ++ d.rows = ap (λ x. x.rows) e3 ∙ ap (λ l. body ++ l) (sym (append_assoc third (b ∷ []) d.rows)) ∙ sym (append_assoc body (third ++ (b ∷ [])) d.rows) in
    let n_left : length left ≡ length body + (length third + 1) = length-append body (third ++ (b ∷ [])) ∙ ap (λ n. length body + n) (length-append third (b ∷ [])) in
    let first = test_code d.pieces test (length body + (length third + 1)) in
    let whole = round_code d.pieces test body third in
    let e4 : four ≡ record { pieces = d.pieces; rows = first ++ (body ++ (third ++ (b ∷ d.rows))); prints = prints } =
    tested left d.rows rows3 (sym is_after) ∙ (λ i. with_code (test_code (e3 i).pieces test (n_left i)) (e3 i)) in
    let rows4 : first ++ (body ++ (third ++ (b ∷ d.rows))) ≡ whole ++ (b ∷ d.rows) =
    ap (λ l. first ++ l) (sym (append_assoc body third (b ∷ d.rows))) ∙ sym (append_assoc first (body ++ third) (b ∷ d.rows)) in
    let n_round : round ≡ length whole = count_round whole (b ∷ d.rows) (ap (λ x. x.rows) e4 ∙ rows4) is_length in
    let e5 : four ≡ record { pieces = d.pieces; rows = (whole ++ (b ∷ [])) ++ d.rows; prints = prints } =
    e4 ∙ ap (λ l. record { pieces = d.pieces; rows = l; prints = prints }) (rows4 ∙ sym (append_assoc whole (b ∷ []) d.rows)) in
    let placed : record { pieces = d.pieces; rows = (whole ++ (b ∷ [])) ++ d.rows; prints = prints } ≡ with_code (whole ++ (b ∷ [])) (record four { rows = d.rows }) =
    λ i. record { pieces = (sym e5 i).pieces; rows = (whole ++ (b ∷ [])) ++ d.rows; prints = (sym e5 i).prints } in
    set_jump whole d.rows (sym is_after) (e5 ∙ placed)
    ∙ (λ i. record { pieces = (e5 i).pieces; rows = (whole ++ (row 0 (Instr.GoBack (n_round i)) ∷ [])) ++ d.rows; prints = (e5 i).prints })
