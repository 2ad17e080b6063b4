-- The text on stderr of a command that is done.
use Rattle.std.specs.Prelude.{ℕ, List, [], ◌++◌, codes, decimal}
use Rattle.command_base.specs.declared.done.Done.{Done}
use Rattle.command_base.specs.declared.done.Done.TheVariants.{Nothing, Added, Counted}
use Rattle.command_base.specs.declared.done.Done.TheVariants as done

-- `lines` are the watchers' lines
abbrev pub done_text : (said : Done) → (lines : List ℕ) → List ℕ
done_text done.Lines lines = lines
done_text Nothing lines = []
done_text (Added added repeated) lines = codes "added " ++ decimal added ++ codes " repeated " ++ decimal repeated ++ codes "\n"
done_text (Counted runs failed succeeded neither) lines = lines ++ codes "runs " ++ decimal runs ++ codes " failed " ++ decimal failed
    ++ codes " succeeded " ++ decimal succeeded ++ codes " neither " ++ decimal neither ++ codes "\n"
