use Rattle.std.proofs.Common.{◌≡◌, ◌+◌, ◌≤◌, ◌-◌, ◌*◌, map, length}
use Rattle.dsm_syntax.specs.Views.{view}
use Rattle.dsm_syntax.specs.Heights.{height, height_arguments}
use Rattle.dsm_syntax.specs.Reading.{gathered, list_of, more_of}
use Rattle.dsm_laws_grammar.specs.Expressions.{below, climb, expressions}
use Rattle.dsm_parse.proofs.expression.+expression.Given as goal

abbrev pub decreases-at_least : goal.decreases-at_least
decreases-at_least l = l.most * 8 + 4

abbrev pub decreases-place : goal.decreases-place
decreases-place l = l.most * 8 + 4

abbrev pub decreases-operand : goal.decreases-operand
decreases-operand l = l.depth * 8 + 11

abbrev pub decreases-climb : goal.decreases-climb
decreases-climb l = l.depth * 8 + 11

abbrev pub decreases-named : goal.decreases-named
decreases-named l = l.depth * 8 + 10

abbrev pub decreases-operation : goal.decreases-operation
decreases-operation l = l.depth * 8 + 10

abbrev pub decreases-arguments : goal.decreases-arguments
decreases-arguments l = l.depth * 8 + 9

abbrev pub decreases-choice : goal.decreases-choice
decreases-choice l = l.depth * 8 + 9

abbrev pub decreases-place_behind : goal.decreases-place_behind
decreases-place_behind l = l.depth * 8 + 9

abbrev pub invariant-arguments-loop-alloc : goal.invariant-arguments-loop-alloc
invariant-arguments-loop-alloc l = record {
  read : list_of ((below l.depth).at_least 0) l.fn.cursor
      ≡ gathered (map view l.list.items) (more_of ((below l.depth).at_least 0)) l.cursor;
  height : l.height ≡ height_arguments (expressions (map view l.list.items));
  low : l.height ≤ l.depth;
}

abbrev pub decreases-arguments-loop-alloc : goal.decreases-arguments-loop-alloc
decreases-arguments-loop-alloc l = length l.cursor

abbrev pub invariant-climb-loop-operator : goal.invariant-climb-loop-operator
invariant-climb-loop-operator l = record {
  read : climb l.depth (below l.depth) l.depth l.least (view l.fn.first.tree) l.fn.cursor
      ≡ climb l.depth (below l.depth) l.depth l.least (view l.left.tree) l.cursor;
  height : l.left.height ≡ height (view l.left.tree);
  low : l.left.height ≤ l.depth + 1;
}

abbrev pub decreases-climb-loop-operator : goal.decreases-climb-loop-operator
decreases-climb-loop-operator l = l.depth + 1 - l.left.height
