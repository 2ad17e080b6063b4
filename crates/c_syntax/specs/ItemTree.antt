-- A whole text as a tree, apart from how memory holds it.
use Rattle.std.specs.Prelude.{ℕ, Option, List}
use Rattle.c_syntax.specs.declared.parts.Base.{Base}
use Rattle.c_syntax.specs.declared.parts.Members.{Members}
use Rattle.c_syntax.specs.declared.parts.Params.{Params}
use Rattle.c_syntax.specs.StatementTree.{DeclarationTree, EntryList}

pub data ItemTree : Type 0 where
  Struct : (token : ℕ) (tag : List ℕ) (members : List Members) → ItemTree
  Function : (token : ℕ) (base : Base) (stars : ℕ) (name : List ℕ) (params : Params) (body : Option EntryList) → ItemTree
  Declaration : (declaration : DeclarationTree) → ItemTree

pub record SourceTree : Type 0 where
  pub items : List ItemTree
  pub lines : List ℕ
