-- A collection of a share's runs is widened where both programs were written of one text.
use Rattle.std.proofs.Common.{◌≡◌, ◌⊎◌, inl, inr, ℕ, List, Option, Some, None, IsSome, ap, sym, subst, ◌∙◌, refl}
use Rattle.cbi_base.specs.Store.{Held}
use Rattle.c_syntax.specs.ItemTree.{SourceTree}
use Rattle.c_types_expressions.specs.declared.walk.Walk.{Walk}
use Rattle.flow.specs.declared.choice.Part.{Part}
use Rattle.flow.specs.declared.choice.Schemes.{Schemes}
use Rattle.flow.specs.declared.program.ProgramParts.{ProgramParts}
use Rattle.flow.specs.Words.{OneEnding, SpellsProgram}
use Rattle.program_parts.specs.Program.{part_table}
use Rattle.compiler.proofs.Refusing.{OneKnown, OneTree}
use Rattle.command_base.specs.Limits.{program_limit}
use Rattle.command_base.proofs.ReadLemmas.{read-once}
use Rattle.command_inputs.specs.Programs.{IsNoProgram}
use Rattle.command_inputs.specs.Runs.{AreRefusedRuns}
use Rattle.cbi_options.specs.declared.schemes.Mode.{Mode}
use Rattle.cbi_options.specs.declared.schemes.Mode.TheVariants as mode
use Rattle.cbi_options.specs.declared.words.TransformWords.{TransformWords}
use Rattle.cbi_options.specs.declared.words.WidenWords.{WidenWords}
use Rattle.command_transform.specs.Transform.{IsFileOf, plan_for, plan_of}
use Rattle.command_widen.specs.declared.texts.WidenTexts.{WidenTexts}
use Rattle.command_widen.specs.Widen.{AreWidenTexts, HasPart, IsNotPart, WidenRefused}
use Rattle.headline.specs.Chain.{meant_table}
use Rattle.headline.specs.Handed.{IsLeftByCollect}
use Rattle.headline.proofs.Chaining.{OneProgram}
use Rattle.headline.proofs.HeadlineTexts.{OneCollection, OneReport, WrittenCollection}
use Rattle.headline.proofs.NoneRefused.{no-ranking}
use Rattle.headline.proofs.Ranking.{table-means}

-- the table of a share is that share of the table of all sites
shared-table : (mode : Mode) (schemes : Schemes) (share : Part) (tree : SourceTree) (known : Walk)
    → meant_table tree known (plan_for mode schemes (Some share)) ≡ part_table share (meant_table tree known (plan_for mode schemes None))
shared-table mode.Plain schemes share tree known = refl
shared-table mode.Full schemes share tree known = refl
shared-table mode.Sampled schemes share tree known = refl

module _ (one_ending : OneEnding) (one_program : OneProgram) (one_tree : OneTree) (one_known : OneKnown) (one_report : OneReport) (one_collection : OneCollection) (written : WrittenCollection) where
  -- so the second program has that share of the first one's sites
  has-share : (words : TransformWords) (text whole file : List ℕ) (share : Part) (p q : ProgramParts) → words.part ≡ None → IsFileOf words text whole
      → IsFileOf (record words { part = Some share }) text file → SpellsProgram whole p → SpellsProgram file q → HasPart share p q
  has-share words text whole file share p q none is shared first second =
      let tree = is.compiled.tree in
      let known = is.compiled.known in
      let accepted = is.compiled.accepted in
      let all = table-means one_ending one_program one_tree one_known text whole (plan_of words) is.program is.compiled is.spells tree known accepted p first in
      let some = table-means one_ending one_program one_tree one_known text file (plan_of (record words { part = Some share })) shared.program shared.compiled shared.spells tree known accepted q second in
      some ∙ shared-table words.mode words.schemes share tree known
      ∙ ap (λ part. part_table share (meant_table tree known (plan_for words.mode words.schemes part))) (sym none) ∙ ap (part_table share) (sym all)

  -- each cause of a refusal of these texts is ruled out
  never-refused : (words : TransformWords) (text whole file : List ℕ) (inner : List (List ℕ)) (w : WidenWords) (held : Option Held) (texts others : WidenTexts) → words.part ≡ None
      → IsFileOf words text whole → IsFileOf (record words { part = Some w.part }) text file → IsSome held → AreWidenTexts held w texts → AreWidenTexts held w others
      → others.whole ≡ whole → others.runs.program ≡ file → texts.runs.program ≡ file → IsLeftByCollect file inner texts.runs.collection
      → IsNoProgram others.whole ⊎ (AreRefusedRuns others.runs ⊎ IsNotPart w.part others) → ⊥
  never-refused words text whole file inner w held texts others none is shared tells are others_are first second program_is left (inl unspelled) =
      unspelled is.program (subst (λ bytes. SpellsProgram bytes is.program) (sym first) is.spells)
  never-refused words text whole file inner w held texts others none is shared tells are others_are first second program_is left (inr (inl runs)) =
      no-ranking one_report one_collection written one_program file inner held w.program w.collection texts.runs tells are.runs_read program_is left
      (record { texts = others.runs; are_texts = others_are.runs_read; refused = runs })
  never-refused words text whole file inner w held texts others none is shared tells are others_are first second program_is left (inr (inr not)) =
      not.other (has-share words text whole file w.part not.whole not.parts none is shared (subst (λ bytes. SpellsProgram bytes not.whole) first not.whole_spelled)
      (subst (λ bytes. SpellsProgram bytes not.parts) second not.spell.program))

  pub no-widening : (words : TransformWords) (text whole file : List ℕ) (inner : List (List ℕ)) (w : WidenWords) (held : Option Held) (texts : WidenTexts) → words.part ≡ None → IsFileOf words text whole
      → IsFileOf (record words { part = Some w.part }) text file → IsSome held → AreWidenTexts held w texts → texts.whole ≡ whole → texts.runs.program ≡ file
      → IsLeftByCollect file inner texts.runs.collection → WidenRefused w held → ⊥
  no-widening words text whole file inner w held texts none is shared tells are whole_is program_is left refused =
      let others = refused.texts in
      let first : others.whole ≡ whole = read-once held w.whole program_limit others.whole texts.whole tells refused.are_texts.whole_read are.whole_read ∙ whole_is in
      let second : others.runs.program ≡ file =
      read-once held w.program program_limit others.runs.program texts.runs.program tells refused.are_texts.runs_read.program_read are.runs_read.program_read ∙ program_is in
      never-refused words text whole file inner w held texts others none is shared tells are refused.are_texts first second program_is left refused.refused
