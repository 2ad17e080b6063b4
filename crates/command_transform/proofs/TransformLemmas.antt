-- What is refused of a text that is compiled.
use Rattle.std.proofs.Common.{◌≡◌, ℕ, List, Option, IsSome, sym, subst}
use Rattle.cbi_base.specs.Store.{Held, IsReadOf}
use Rattle.cbi_base.specs.declared.refusal.Refusal.{Refusal}
use Rattle.compiler.specs.Refused.{IsRefusedText, RefusesText}
use Rattle.compiler.specs.declared.plan.Plan.{Plan}
use Rattle.command_base.specs.Limits.{text_limit}
use Rattle.command_base.proofs.ReadLemmas.{read-once}
use Rattle.cbi_options.specs.declared.words.TransformWords.{TransformWords}
use Rattle.command_transform.specs.Transform.{TransformRefused, plan_of}

-- the bytes are refused where any bytes read of the file are
pub same-refused-text : (held : Option Held) (words : TransformWords) (bytes slice : List ℕ) → slice ≡ bytes → IsSome held → IsReadOf held words.text text_limit bytes → TransformRefused words held
    → IsRefusedText (plan_of words) slice
same-refused-text held words bytes slice same tells read refused =
    subst (IsRefusedText (plan_of words)) (sym same)
    (subst (IsRefusedText (plan_of words)) (read-once held words.text text_limit refused.bytes bytes tells refused.read read) refused.refused)

-- a refusal that is told is one of the bytes read
pub transform-refused : ((plan : Plan) (refusal : Refusal) (text : List ℕ) → RefusesText plan refusal text → IsRefusedText plan text)
    → (words : TransformWords) (held : Option Held) (bytes : List ℕ) (refusal : Refusal) → IsReadOf held words.text text_limit bytes → RefusesText (plan_of words) refusal bytes → TransformRefused words held
transform-refused law words held bytes refusal read h = record { bytes = bytes; read = read; refused = law (plan_of words) refusal bytes h }
