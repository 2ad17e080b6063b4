-- What is written of the texts that are read.
use Rattle.std.proofs.Common.{◌≡◌, ℕ, List, Option, ap, ◌∙◌}
use Rattle.cbi_base.specs.Store.{Held}
use Rattle.report_file.specs.declared.draft.Version.TheVariants.{Second}
use Rattle.collector.specs.declared.collection.Held.{Held as Collected}
use Rattle.collector.specs.Spelling.{bundle_text, collection_text}
use Rattle.command_widen.specs.declared.texts.WidenTexts.{WidenTexts}
use Rattle.cbi_options.specs.declared.words.WidenWords.{WidenWords}
use Rattle.command_widen.specs.Loading.{HoldsTexts}
use Rattle.command_widen.specs.Widen.{AreWidenTexts, IsWidened}

-- the text of a collection that holds the widened reports is the one that is due
pub is_due : (held : Option Held) (w : WidenWords) (texts : WidenTexts) (c : Collected) (text : List ℕ) → AreWidenTexts held w texts → HoldsTexts w.part texts c
    → text ≡ collection_text c → IsWidened held w text
is_due held w texts c text are holds text_is = record {
  texts = texts;
  whole = holds.whole;
  parts = holds.parts;
  bundle = holds.bundle;
  are_texts = are;
  spell = holds.spell;
  text_is = text_is ∙ ap (bundle_text Second) holds.holds;
}
