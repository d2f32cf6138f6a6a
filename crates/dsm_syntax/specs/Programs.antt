-- What the tree of a program shows.
use Rattle.std.specs.Prelude.{List}
use Rattle.dsm_syntax.specs.declared.tree.Tree.{Tree}
use Rattle.dsm_syntax.specs.Tree.{Item}
use Rattle.dsm_syntax.specs.Views.{view_items}

-- its items in order
abbrev pub view_tree : Tree → List Item
view_tree tree = view_items tree.items.items
