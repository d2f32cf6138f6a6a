use Rattle.std.proofs.Common.{◌≡◌, ◌≤◌, ◌∙◌, ap, sym, ◌∷◌, ◌++◌, map, length, take, drop, append_assoc, arith, List, ℕ, Bor}
use Rattle.std.specs.List.{prefix_len}
use Rattle.std.proofs.lemmas.List.{map-append, length-drop}
use Rattle.std.proofs.lemmas.Grind.{common_steps}
use Rattle.dsm_sched.specs.Words.{is_blank, not_blank}
use Rattle.dsm_sched.proofs.WordsOf.{parted, parted-blanks, prefix_len-blanks, takes_word, TakesWord}
use Rattle.dsm_sched.proofs.words.words.Goals as goal

pub loop-rest-init : goal.loop-rest-init
loop-rest-init c = record {
  split = rw (c.new-words.ensures.items, c.skip_blanks-rest.ensures, parted-blanks) (ap parted c.before_comment.ensures);
  begun = rw c.skip_blanks-rest.ensures (prefix_len-blanks c.before_comment.result.now);
}

pub split_at-requires : goal.split_at-requires
split_at-requires c =
    let word : TakesWord c.loop-rest.rest.now = takes_word c.loop-rest.rest.now (grind (arith, common_steps)) c.loop-rest.invariant.begun in
    rw c.word_len.ensures word.within

pub loop-rest-smaller : goal.loop-rest-smaller
loop-rest-smaller c =
    let rest = c.loop-rest.rest.now in
    let word : TakesWord rest = takes_word rest (grind (arith, common_steps)) c.loop-rest.invariant.begun in
    let more = c.split_at.result.1.now in
    let shorter : length (drop (prefix_len is_blank more) more) ≤ length more = omega (arith, length-drop (prefix_len is_blank more) more) in
    rw c.skip_blanks-rest-in-loop-rest.ensures (omega (arith, shorter, c.split_at.ensures.back_len, c.word_len.ensures, word.some))

pub loop-rest-preserved : goal.loop-rest-preserved
loop-rest-preserved c =
    let rest = c.loop-rest.rest.now in
    let word : TakesWord rest = takes_word rest (grind (arith, common_steps)) c.loop-rest.invariant.begun in
    let more = c.split_at.result.1.now in
    record {
      split =
          let first : c.split_at.result.0.now ≡ take (prefix_len not_blank rest) rest = c.split_at.ensures.front ∙ ap (λ n. take n rest) c.word_len.ensures in
          let others : parted c.skip_blanks-rest-in-loop-rest.result.now ≡ parted (drop (prefix_len not_blank rest) rest) =
          ap parted c.skip_blanks-rest-in-loop-rest.ensures ∙ parted-blanks more ∙ ap parted (c.split_at.ensures.back ∙ ap (λ n. drop n rest) c.word_len.ensures) in
          rw (c.in_ok-push.ensures.items, map-append, append_assoc)
          (ap (λ parts. map (λ (one : Bor (List ℕ)). one.now) c.loop-rest.words.items ++ parts) ((λ k. first k ∷ others k) ∙ sym word.split) ∙ c.loop-rest.invariant.split);
      begun = rw c.skip_blanks-rest-in-loop-rest.ensures (prefix_len-blanks more);
    }
