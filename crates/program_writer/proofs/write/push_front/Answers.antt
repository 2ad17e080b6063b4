use Rattle.std.proofs.Common.{◌++◌, ap, ◌∙◌, codes, map}
use Rattle.flow.specs.Spelling.{word_and_number, global_fields, head_fields, head_of, text_fields, whole_list}
use Rattle.program_writer.specs.Written.{rows_text}
use Rattle.program_writer.proofs.WriteLemmas.{front-joined}
use Rattle.program_writer.proofs.write.push_front.Goals as goal

pub returns-clause-rows : goal.returns-clause-rows
returns-clause-rows c =
    let p = c.args.program.now in
    front-joined (word_and_number (codes "cbi-program") 1) (whole_list (codes "texts") text_fields p.texts) (whole_list (codes "globals") global_fields p.globals) (whole_list (codes "functions") head_fields (map head_of p.functions)) c.args.out.now.items
    c.push_count.new.out.items c.push_texts.new.out.items c.push_globals.new.out.items c.push_heads.new.out.items
    c.in_ok-push_count.ensures
    (c.in_ok-push_texts.ensures ∙ ap (λ texts. c.push_count.new.out.items ++ rows_text (whole_list (codes "texts") text_fields texts)) c.texts.ensures.value)
    (c.in_ok-push_globals.ensures ∙ ap (λ globals. c.push_texts.new.out.items ++ rows_text (whole_list (codes "globals") global_fields globals)) c.globals.ensures.value)
    (c.in_ok-push_heads.ensures ∙ ap (λ functions. c.push_globals.new.out.items ++ rows_text (whole_list (codes "functions") head_fields (map head_of functions))) c.functions.ensures.value)
