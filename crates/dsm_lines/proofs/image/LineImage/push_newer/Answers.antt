use Rattle.std.proofs.Common.{◌≡◌, ◌<◌, ◌≤◌, ◌+◌, ◌-◌, ◌++◌, ◌∙◌, length, get_or, sym, ap, map, filter, arith}
use Rattle.std.specs.Prelude.{nat_lt}
use Rattle.std.specs.List.{range_with_len}
use Rattle.std.proofs.lemmas.List.{get_or_past}
use Rattle.dsm_lines.specs.Copies.{line_with}
use Rattle.dsm_lines.specs.LineImages.{image_pieces, image_stamps, image_values}
use Rattle.dsm_lines.proofs.Cells.{is_below, is_above}
use Rattle.dsm_lines.proofs.Ranges.{rest_fails, one_more_passes, one_more_fails}
use Rattle.dsm_lines.proofs.Spanning.{among_pushed}
use Rattle.dsm_lines.proofs.image.LineImage.push_newer.Goals as goal
use Rattle.dsm_lines.proofs.image.LineImage.push_newer.Goals.{then-stamp-have+in_ok-push, else-stamp-have}

pub loop-line-preserved : goal.loop-line-preserved
loop-line-preserved c =
    record {
      listed = elim c.if-stamp-have.branch [
        | then-stamp-have+in_ok-push w ↦
            let over : c.args.«have» < image_stamps c.args.self.now c.loop-line.line = omega (arith, c.stamp-stamp.ensures, w.if-stamp-have.true) in
            w.list-is
            ∙ among_pushed (image_pieces c.args.self.now) (image_values c.args.self.now) c.args.list.now c.loop-line.list w.push.new.self
            (filter (λ line. nat_lt c.args.«have» (image_stamps c.args.self.now line)) (range_with_len c.args.span.first (c.loop-line.line - c.args.span.first)))
            (filter (λ line. nat_lt c.args.«have» (image_stamps c.args.self.now line)) (range_with_len c.args.span.first (c.loop-line.line + 1 - c.args.span.first)))
            w.line.result c.loop-line.line c.loop-line.invariant.listed w.in_ok-push.ensures.ok w.line.ensures
            (one_more_passes (λ line. nat_lt c.args.«have» (image_stamps c.args.self.now line)) c.args.span.first (c.loop-line.line - c.args.span.first) (c.loop-line.line + 1 - c.args.span.first) c.loop-line.line
            (omega arith) (omega arith) (is_below c.args.«have» (image_stamps c.args.self.now c.loop-line.line) over))
        | else-stamp-have w ↦
            let upto : image_stamps c.args.self.now c.loop-line.line ≤ c.args.«have» = omega (arith, c.stamp-stamp.ensures, w.if-stamp-have.false) in
            w.list-is
            ∙ c.loop-line.invariant.listed
            ∙ ap (λ ns. c.args.list.now ++ map (line_with (image_pieces c.args.self.now) (image_values c.args.self.now)) ns)
            (sym (one_more_fails (λ line. nat_lt c.args.«have» (image_stamps c.args.self.now line)) c.args.span.first (c.loop-line.line - c.args.span.first) (c.loop-line.line + 1 - c.args.span.first) c.loop-line.line
            (omega arith) (omega arith) (is_above c.args.«have» (image_stamps c.args.self.now c.loop-line.line) upto)))
      ];
      within = omega (arith, c.min-end.ensures);
    }

pub returns : goal.returns
returns c =
    c.loop-line.invariant.listed
    ∙ ap (λ ns. c.args.list.now ++ map (line_with (image_pieces c.args.self.now) (image_values c.args.self.now)) ns)
    (sym (rest_fails (λ line. nat_lt c.args.«have» (image_stamps c.args.self.now line)) c.args.span.first (c.loop-line.line - c.args.span.first) c.args.span.count c.loop-line.line (c.args.span.first + c.args.span.count)
    (omega arith) (omega arith) c.loop-line.invariant.within
    (λ x above below.
    let past : length c.args.self.now.stamps ≤ x = omega (arith, c.min-end.ensures, c.len.ensures, c.loop-line-test.false) in
    let none : get_or c.args.self.now.stamps x 0 ≡ 0 = get_or_past c.args.self.now.stamps x 0 past in
    is_above c.args.«have» (image_stamps c.args.self.now x) (omega (arith, none)))))
