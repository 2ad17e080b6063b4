-- What C99 asks of names, expressions and statements, in a text of which this is known. Of an initialiser it speaks of the expressions in it alone.
use Rattle.std.specs.Prelude.{◌≡◌, ◌⊎◌, ℕ, Bool, true, false, List, [], ◌∷◌, Option, Some, None, Ok, IfSome, MatchOption, option_map, slice_get}
use Rattle.std.specs.List.{AllByRecursion}
use Rattle.c_syntax.specs.declared.parts.Param.{Param}
use Rattle.c_syntax.specs.declared.parts.ParamName.{ParamName}
use Rattle.c_syntax.specs.declared.expr.PrefixOperator.TheVariants as prefix
use Rattle.c_syntax.specs.ExprTree as e
use Rattle.c_syntax.specs.Words.{ExprTree, ExprList, LinkList, PostfixList, InitialTree, StartTree, DeclarationTree, ForStartTree, StatementTree, EntryList}
use Rattle.c_syntax.specs.Words.{ItemTree, SourceTree}
use Rattle.c_syntax.specs.StatementTree as s
use Rattle.c_syntax.specs.ItemTree as i
use Rattle.c_types_rules.specs.declared.function.FunctionType.{FunctionType}
use Rattle.c_types_rules.specs.declared.library.Library.{Library}
use Rattle.c_types_rules.specs.declared.library.Library.TheVariants as library
use Rattle.c_types_rules.specs.declared.operand.Operand.{Operand}
use Rattle.c_types_rules.specs.Words.{TypeTree, Void, Char, Int, Unsigned, Pointer, Array, is_struct, is_void, of_kind, place_of, value_of, value_type}
use Rattle.c_types_rules.specs.Words.{fits_format, library_called, library_named}
use Rattle.c_types_expressions.specs.declared.walk.FunctionEntry.{FunctionEntry}
use Rattle.c_types_expressions.specs.declared.walk.Walk.{Walk}
use Rattle.c_types.specs.Answers.{note_at, type_at}
use Rattle.c_types_expressions.specs.ExprWalk.{binary_of, compound_of, concatenated_strings, string_cells}
use Rattle.c_types_walk.specs.ItemWalk.{listed_params}
use Rattle.c_meaning.specs.Words.{is_null_constant, token_of}
use Rattle.c_types_laws.specs.Naming.{DeclaresVariable, NamesNone, NamesVariable}
use Rattle.c_types_laws.specs.Operands.{Accepts, Assigns, Casts, Chooses, Indexes, IsScalar, Joins, Prefixes, Selects, SelectsBehind, Steps}

-- whether the expression is an lvalue (C99 6.5.1p4, 6.5.1p5, 6.5.2.1p2, 6.5.2.3p3, 6.5.2.3p4, 6.5.3.2p4); here no string is one
abbrev pub ends_as_lvalue : Bool → PostfixList → Bool
ends_as_lvalue is_lvalue e.no_postfix = is_lvalue
ends_as_lvalue is_lvalue (e.index token x rest) = ends_as_lvalue true rest
ends_as_lvalue is_lvalue (e.member token name rest) = ends_as_lvalue is_lvalue rest
ends_as_lvalue is_lvalue (e.arrow token name rest) = ends_as_lvalue true rest
ends_as_lvalue is_lvalue (e.increment token rest) = ends_as_lvalue false rest
ends_as_lvalue is_lvalue (e.decrement token rest) = ends_as_lvalue false rest

abbrev pub is_lvalue : ExprTree → Bool
is_lvalue (e.Name token name) = true
is_lvalue (e.Prefix token prefix.Indirection operand) = true
is_lvalue (e.Postfix primary operators) = ends_as_lvalue (is_lvalue primary) operators
is_lvalue (e.Paren token inner) = is_lvalue inner
is_lvalue x = false

-- of an operand, or of two, and of the type that an operator gives

abbrev pub Of : Option Operand → (Operand → Type 0) → Type 0
Of x P = MatchOption x ⊥ P

abbrev pub Gives : Option TypeTree → (TypeTree → Type 0) → Type 0
Gives t P = MatchOption t ⊥ P

-- a member of what is an lvalue is one
abbrev pub selected_operand : Option Operand → Option TypeTree → Option Operand
selected_operand (Some x) (Some t) = Some (record { ctype = t; place = x.place; null = false })
selected_operand x t = None

abbrev pub CalleeFits : Option FunctionEntry → List ℕ → (FunctionType → Type 0) → Type 0
CalleeFits None name P = ⊥
CalleeFits (Some f) name P = (f.name ≡ name) × P f.ctype

module _ (w : Walk) where
  -- the expression as an operand: its type stands at its own token
  abbrev pub operand : ExprTree → Option Operand
  operand x = option_map (λ t. record { ctype = t; place = is_lvalue x; null = is_null_constant x }) (type_at w (token_of x))

  -- the type of what is behind an operator
  abbrev pub value_at : ℕ → Option Operand
  value_at token = option_map value_of (type_at w token)

  abbrev pub lvalue_at : ℕ → Option Operand
  lvalue_at token = option_map place_of (type_at w token)

  -- The operands of a comma are no structs, and the last one's value is the whole's (6.5.17p2).
  abbrev pub IsSequence : ExprList → TypeTree → Type 0
  IsSequence e.no_exprs t = ⊥
  IsSequence (e.more_exprs x e.no_exprs) t = Of (operand x) (λ a. (is_struct a.ctype ≡ false) × (t ≡ value_type a))
  IsSequence (e.more_exprs x (e.more_exprs y rest)) t = Of (operand x) (λ a. is_struct a.ctype ≡ false) × IsSequence (e.more_exprs y rest) t

  -- an argument for each parameter, which may be assigned to it (6.5.2.2p2)
  abbrev pub ArgumentsFit : List TypeTree → ExprList → Type 0
  ArgumentsFit [] e.no_exprs = Unit {0}
  ArgumentsFit [] (e.more_exprs x rest) = ⊥
  ArgumentsFit (t ∷ ts) e.no_exprs = ⊥
  ArgumentsFit (t ∷ ts) (e.more_exprs x rest) = Of (operand x) (Accepts t) × ArgumentsFit ts rest

  -- the types of several operands
  abbrev pub Operands : ExprList → List Operand → Type 0
  Operands e.no_exprs [] = Unit {0}
  Operands e.no_exprs (a ∷ more) = ⊥
  Operands (e.more_exprs x rest) [] = ⊥
  Operands (e.more_exprs x rest) (a ∷ more) = (operand x ≡ Some a) × Operands rest more

  -- a call of a function of the library, `printf` aside (6.5.2.2p2, 7.2, 7.19, 7.20)
  abbrev pub CallsLibrary : List ℕ → ExprList → TypeTree → Type 0
  CallsLibrary name arguments t =
      (f : Library) × ((library_named name ≡ Some f) × ((xs : List Operand) × (Operands arguments xs × (library_called f xs ≡ Ok (value_of t)))))

  -- a call of a function that was declared, whose place is noted at the name (6.5.2.2p2)
  abbrev pub CallsFunction : ℕ → List ℕ → ExprList → TypeTree → Type 0
  CallsFunction token name arguments t = (place : ℕ) × ((note_at w.functions_at token ≡ Some place)
      × CalleeFits (slice_get w.functions place) name (λ f. ArgumentsFit f.params arguments × (t ≡ f.gives)))

  abbrev pub CallFits : ℕ → List ℕ → ExprList → TypeTree → Type 0
  CallFits token name arguments t = CallsLibrary name arguments t ⊎ CallsFunction token name arguments t

  abbrev mutual
    pub ExprFits : ExprTree → Type 0
    ExprFits (e.Comma token operands) = ExprsFit operands × Gives (type_at w token) (IsSequence operands)
    ExprFits (e.Assign token s target value) = ExprFits target × ExprFits value
        × Of (operand target) (λ x. Of (operand value) (λ y. Gives (type_at w token) (Assigns w.structs (compound_of s) x y)))
    ExprFits (e.Conditional token condition first second) = ExprFits condition × ExprFits first × ExprFits second
        × Of (operand condition) (λ c. Of (operand first) (λ x. Of (operand second) (λ y. Gives (type_at w token) (Chooses c x y))))
    ExprFits (e.Chain level first links) = ExprFits first × LinksFit (operand first) links
    ExprFits (e.Cast token b stars x) = ExprFits x × Of (operand x) (λ a. Gives (type_at w token) (λ t. Casts t a t))
    ExprFits (e.Prefix token operator x) = ExprFits x × Of (operand x) (λ a. Gives (type_at w token) (Prefixes w.structs operator a))
    ExprFits (e.SizeOfType token b stars) = type_at w token ≡ Some Unsigned
    ExprFits (e.Postfix primary operators) = ExprFits primary × PostfixFits (operand primary) operators
    ExprFits (e.Name token name) = NamesVariable w token name
    ExprFits (e.Call token name arguments) = NamesNone w token name × ExprsFit arguments × Gives (type_at w token) (CallFits token name arguments)
    ExprFits (e.Constant token kind value) = type_at w token ≡ Some (of_kind kind)
    ExprFits (e.Strings token parts) = type_at w token ≡ Some (Array Char (string_cells parts))
    ExprFits (e.Paren token inner) = ExprFits inner × (type_at w token ≡ type_at w (token_of inner))
    ExprFits (e.Null token) = type_at w token ≡ Some (Pointer Void)
    ExprFits (e.EndOfFile token) = type_at w token ≡ Some Int

    pub ExprsFit : ExprList → Type 0
    ExprsFit e.no_exprs = Unit {0}
    ExprsFit (e.more_exprs x rest) = ExprFits x × ExprsFit rest

    -- the operators of a chain, behind this left operand
    pub LinksFit : Option Operand → LinkList → Type 0
    LinksFit left e.no_links = Unit {0}
    LinksFit left (e.more_links token s x rest) = ExprFits x
        × Of left (λ a. Of (operand x) (λ b. Gives (type_at w token) (Joins w.structs (binary_of s) a b))) × LinksFit (value_at token) rest

    -- the operators behind this operand
    pub PostfixFits : Option Operand → PostfixList → Type 0
    PostfixFits left e.no_postfix = Unit {0}
    PostfixFits left (e.index token x rest) = ExprFits x
        × Of left (λ a. Of (operand x) (λ b. Gives (type_at w token) (Indexes w.structs a b))) × PostfixFits (lvalue_at token) rest
    PostfixFits left (e.member token name rest) =
        Of left (λ a. Gives (type_at w token) (Selects w.structs name a.ctype)) × PostfixFits (selected_operand left (type_at w token)) rest
    PostfixFits left (e.arrow token name rest) =
        Of left (λ a. Gives (type_at w token) (SelectsBehind w.structs name (value_type a))) × PostfixFits (lvalue_at token) rest
    PostfixFits left (e.increment token rest) = Of left (λ a. Gives (type_at w token) (Steps w.structs a)) × PostfixFits (value_at token) rest
    PostfixFits left (e.decrement token rest) = Of left (λ a. Gives (type_at w token) (Steps w.structs a)) × PostfixFits (value_at token) rest

  -- the arguments of a `printf`: a string, and one behind it for each conversion (7.19.6.1)
  abbrev pub FormatFits : ExprList → Type 0
  FormatFits (e.more_exprs (e.Strings token parts) rest) = (xs : List Operand) × (Operands rest xs × (fits_format (concatenated_strings parts) xs ≡ true))
  FormatFits arguments = ⊥

  abbrev pub PrintFits : ℕ → List ℕ → ExprList → Type 0
  PrintFits token name arguments = NamesNone w token name × ExprsFit arguments × (library_named name ≡ Some library.Printf) × FormatFits arguments
      × (type_at w token ≡ Some Int)

  -- the whole expression of a statement, which may be a `printf`
  abbrev pub WholeFits : ExprTree → Type 0
  WholeFits (e.Call token name arguments) = ExprFits (e.Call token name arguments) ⊎ PrintFits token name arguments
  WholeFits x = ExprFits x

  -- its value is no struct, which could not be used
  abbrev pub IsUsable : ExprTree → Type 0
  IsUsable x = Of (operand x) (λ a. is_struct a.ctype ≡ false)

  -- what decides (6.8.4.1p1, 6.8.5p2)
  abbrev pub ConditionIsScalar : ExprTree → Type 0
  ConditionIsScalar x = Of (operand x) IsScalar

  -- the parts of a `for`
  abbrev pub PartFits : Option ExprTree → Type 0
  PartFits None = Unit {0}
  PartFits (Some x) = ExprFits x × IsUsable x

  abbrev pub ConditionFits : Option ExprTree → Type 0
  ConditionFits None = Unit {0}
  ConditionFits (Some x) = ExprFits x × ConditionIsScalar x

  abbrev pub InitialFits : Option InitialTree → Type 0
  InitialFits None = Unit {0}
  InitialFits (Some (s.Value value)) = ExprFits value
  InitialFits (Some (s.Braced token items comma)) = ExprsFit items

  abbrev pub StartFits : StartTree → Type 0
  StartFits x = DeclaresVariable w x.declarator.name_token x.declarator.name × InitialFits x.initial

  abbrev pub DeclarationFits : DeclarationTree → Type 0
  DeclarationFits d = AllByRecursion StartFits d.starts

  abbrev pub ForStartFits : ForStartTree → Type 0
  ForStartFits (s.Declares declaration) = DeclarationFits declaration
  ForStartFits (s.Computes x) = PartFits x

  -- `gives` is what the function gives, and `looping` whether a loop is around.
  abbrev mutual
    pub StatementFits : TypeTree → Bool → StatementTree → Type 0
    StatementFits gives looping (s.Block token entries) = EntriesFit gives looping entries
    StatementFits gives looping (s.Empty token) = Unit {0}
    StatementFits gives looping (s.Expr token x) = WholeFits x × IsUsable x
    StatementFits gives looping (s.If token condition first) = ExprFits condition × ConditionIsScalar condition × StatementFits gives looping first
    StatementFits gives looping (s.IfElse token condition first second) =
        ExprFits condition × ConditionIsScalar condition × StatementFits gives looping first × StatementFits gives looping second
    StatementFits gives looping (s.While token condition body) = ExprFits condition × ConditionIsScalar condition × StatementFits gives true body
    StatementFits gives looping (s.Do token body condition) = StatementFits gives true body × ExprFits condition × ConditionIsScalar condition
    StatementFits gives looping (s.For token start condition step body) =
        ForStartFits start × ConditionFits condition × PartFits step × StatementFits gives true body
    -- a value only where the function gives one, and then what may be assigned to its type (6.8.6.4)
    StatementFits gives looping (s.Return token None) = is_void gives ≡ true
    StatementFits gives looping (s.Return token (Some x)) = ExprFits x × (is_void gives ≡ false) × Of (operand x) (Accepts gives)
    -- only in a loop (6.8.6.2p1, 6.8.6.3p1)
    StatementFits gives looping (s.Break token) = looping ≡ true
    StatementFits gives looping (s.Continue token) = looping ≡ true

    pub EntriesFit : TypeTree → Bool → EntryList → Type 0
    EntriesFit gives looping s.no_entries = Unit {0}
    EntriesFit gives looping (s.declared declaration rest) = DeclarationFits declaration × EntriesFit gives looping rest
    EntriesFit gives looping (s.stated statement rest) = StatementFits gives looping statement × EntriesFit gives looping rest

  abbrev pub ParamNameFits : ParamName → Type 0
  ParamNameFits n = DeclaresVariable w n.token n.name

  abbrev pub ParamFits : Param → Type 0
  ParamFits p = IfSome p.name ParamNameFits

  -- the body of a function, which gives what the function of its name was declared to give
  abbrev pub BodyFits : List ℕ → EntryList → Type 0
  BodyFits name body = (place : ℕ) × CalleeFits (slice_get w.functions place) name (λ f. EntriesFit f.gives false body)

  abbrev pub ItemFits : ItemTree → Type 0
  ItemFits (i.Struct token tag members) = Unit {0}
  ItemFits (i.Function token b stars name ps None) = Unit {0}
  ItemFits (i.Function token b stars name ps (Some body)) = AllByRecursion ParamFits (listed_params ps) × BodyFits name body
  ItemFits (i.Declaration declaration) = DeclarationFits declaration

  -- names, expressions and statements of the text are as C99 asks
  abbrev pub TextFits : SourceTree → Type 0
  TextFits t = AllByRecursion ItemFits t.items
