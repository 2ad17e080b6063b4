use Rattle.std.specs.Option.{option_map}
use Rattle.std.proofs.Common.{◌-◌, None, length, take, drop, ap, ◌∙◌, rules}
use Rattle.cbi_options.specs.WordRule.{given_by_words, texts_of}
use Rattle.cbi_options.proofs.Cutting.{after, option-step, positional-step, texts_of-first, value-step}
use Rattle.cbi_options.proofs.given.Given.add_words.Goals as goal

pub loop-rest-preserved-in-Continue-branch-4 : goal.loop-rest-preserved-in-Continue-branch-4
loop-rest-preserved-in-Continue-branch-4 c =
    let parts = c.in-Some-parts_of.ensures in
    let rest = c.loop-rest.rest.now in
    let first = texts_of-first rest c.word-item.result c.as_str-word.result.now (search rules) c.word-item.is c.as_str-word.ensures.value in
    option-step c.loop-rest.self c.add_option-in-Some-parts_of.new.self c.loop-rest.waiting c.as_str-word.result.now c.in-Some-parts_of.name.now c.in-Some-parts_of.value.now (texts_of (take (length rest - 1) (drop 1 rest))) (given_by_words None (texts_of c.args.words.now)) (search rules) (search rules) parts.0 parts.1 parts.2 (search rules)
    (c.loop-rest.invariant ∙ ap (λ texts. option_map (after c.loop-rest.self) (given_by_words (option_map (λ name. name.now) c.loop-rest.waiting) texts)) first)

pub loop-rest-preserved-in-Some : goal.loop-rest-preserved-in-Some
loop-rest-preserved-in-Some c =
    let rest = c.loop-rest.rest.now in
    let first = texts_of-first rest c.word-item.result c.as_str-word.result.now (search rules) c.word-item.is c.as_str-word.ensures.value in
    value-step c.loop-rest.self c.add_option.new.self c.loop-rest.waiting c.in-Some.name c.as_str-word.result.now (texts_of (take (length rest - 1) (drop 1 rest))) (given_by_words None (texts_of c.args.words.now)) (search rules) (search rules) (search rules)
    (c.loop-rest.invariant ∙ ap (λ texts. option_map (after c.loop-rest.self) (given_by_words (option_map (λ name. name.now) c.loop-rest.waiting) texts)) first)

pub loop-rest-preserved-in-Positional : goal.loop-rest-preserved-in-Positional
loop-rest-preserved-in-Positional c =
    let rest = c.loop-rest.rest.now in
    let first = texts_of-first rest c.word-item.result c.as_str-word.result.now (search rules) c.word-item.is c.as_str-word.ensures.value in
    positional-step c.loop-rest.self c.add_positional.new.self c.loop-rest.waiting c.as_str-word.result.now (texts_of (take (length rest - 1) (drop 1 rest))) (given_by_words None (texts_of c.args.words.now)) (search rules) (search rules) (search rules)
    (c.loop-rest.invariant ∙ ap (λ texts. option_map (after c.loop-rest.self) (given_by_words (option_map (λ name. name.now) c.loop-rest.waiting) texts)) first)
