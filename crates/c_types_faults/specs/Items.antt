-- The items of a text (C99 6.9): what is declared behind them, and which rule one breaks first.
use Rattle.std.specs.Prelude.{◌≡◌, ◌⊎◌, ℕ, true, List, [], ◌∷◌, is_some}
use Rattle.c_syntax.specs.ItemTree as i
use Rattle.c_syntax.specs.ItemTree.{ItemTree}
use Rattle.c_types_rules.specs.declared.fault.FaultKind.{FaultKind}
use Rattle.c_types_rules.specs.declared.function.FunctionType.{FunctionType}
use Rattle.c_types_rules.specs.TypeTree.{TypeTree}
use Rattle.c_types_expressions.specs.ExprWalk.{with_stars}
use Rattle.c_types_walk.specs.ItemWalk.{listed_params}
use Rattle.c_types_faults.specs.Context.{Context, known_identifiers}
use Rattle.c_types_faults.specs.Types.{BaseBreaks, IsBase}
use Rattle.c_types_faults.specs.Declarations.{DeclarationBreaks, DeclarationGives}
use Rattle.c_types_faults.specs.Structs.{StructBreaks, StructGives}
use Rattle.c_types_faults.specs.Functions.{Formal, FunctionBreaks, FunctionGives, ParamsBreak, ParamsGive, PrototypeGives, prototype}

abbrev pub ItemGives : Context → ItemTree → Context → Type 0
ItemGives c (i.Struct token tag members) after = StructGives c tag members after
ItemGives c (i.Function token b stars name ps body) after = (f : FunctionType) × ((formals : List Formal)
    × (PrototypeGives b stars (is_some body) (listed_params ps) c f formals × FunctionGives name f formals body c after))
ItemGives c (i.Declaration declaration) after = DeclarationGives true c declaration after

abbrev pub ItemBreaks : Context → ItemTree → FaultKind → ℕ → Type 0
ItemBreaks c (i.Struct token tag members) kind at = StructBreaks c token tag members kind at
ItemBreaks c (i.Function token b stars name ps body) kind at =
    BaseBreaks (known_identifiers c) b kind at ⊎ ((base : TypeTree) × (IsBase (known_identifiers c) b base
    × (ParamsBreak c (is_some body) [] (listed_params ps) kind at ⊎ ((formals : List Formal) × (ParamsGive c (is_some body) [] (listed_params ps) formals
    × FunctionBreaks token name (prototype (with_stars stars base) formals) formals body c kind at)))))
ItemBreaks c (i.Declaration declaration) kind at = DeclarationBreaks true c declaration kind at

abbrev pub ItemsGive : Context → List ItemTree → Context → Type 0
ItemsGive c [] after = after ≡ c
ItemsGive c (x ∷ xs) after = (next : Context) × (ItemGives c x next × ItemsGive next xs after)

abbrev pub ItemsBreak : Context → List ItemTree → FaultKind → ℕ → Type 0
ItemsBreak c [] kind at = ⊥
ItemsBreak c (x ∷ xs) kind at = ItemBreaks c x kind at ⊎ ((next : Context) × (ItemGives c x next × ItemsBreak next xs kind at))
