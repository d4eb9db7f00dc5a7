use Rattle.std.proofs.Common.{◌≡◌, ◌-◌, ◌^◌, Bool, true, not, ◌&&◌, ◌==◌, List, ℕ, map, take, drop}
use Rattle.std.proofs.Common.{length, sym, ap, subst, ◌∙◌}
use Rattle.std.specs.Prelude.{min, unwrap_or, option_and_then}
use Rattle.std.specs.List.{list_all}
use Rattle.std.specs.Option.{option_map_or}
use Rattle.sv_text.specs.Words.{number_of}
use Rattle.sv_workload.specs.Numbers.{counts_as}
use Rattle.sv_workload.specs.Forms.{Form, between, form_of}
use Rattle.sv_workload.specs.Line.{Line}
use Rattle.sv_load.specs.Limits.{most_ticks}
use Rattle.sv_workload.specs.Checks.{is_word, is_within, are_within}
use Rattle.sv_workload.proofs.words_read.Passing.{Leaves, the_state}
use Rattle.sv_workload.proofs.words_read.Fielded.{Tells, told}
use Rattle.sv_workload.proofs.fields.fields_of.Goals as goal

-- the form as it stands in the code
abbrev form_in : (c : goal.After-ends_well-ended) → Form
form_in c = record {
  numbers = c.form.inside.numbers.now;
  more = c.form.inside.more.now;
  text = c.form.inside.text;
  identifier = c.form.inside.identifier;
}

-- the first pass, and then the second
first_is : (c : goal.After-ends_well-ended) → the_state c.of-numbers.result.values.items
    c.of-numbers.result.filled c.of-numbers.result.ranged c.of-numbers.new.words ≡
    the_state (map counts_as (take (length (form_in c).numbers) c.again-words.result))
    (list_all is_word (take (length (form_in c).numbers) c.again-words.result))
    (are_within (form_in c).numbers c.again-words.result)
    (drop (length (form_in c).numbers) c.again-words.result)
first_is c =
    let p = c.of-numbers.ensures in
    ap (λ (ns : List ℕ). the_state ns c.of-numbers.result.filled c.of-numbers.result.ranged
    c.of-numbers.new.words) p.values ∙ ap
    (λ (b : Bool). the_state (map counts_as (take (length (form_in c).numbers)
    c.again-words.result)) b c.of-numbers.result.ranged c.of-numbers.new.words) p.filled ∙ ap
    (λ (b : Bool). the_state (map counts_as (take (length (form_in c).numbers)
    c.again-words.result)) (list_all is_word (take (length (form_in c).numbers)
    c.again-words.result)) b c.of-numbers.new.words) p.ranged ∙ ap
    (λ (ws : List (List ℕ)). the_state (map counts_as (take (length (form_in c).numbers)
    c.again-words.result)) (list_all is_word (take (length (form_in c).numbers)
    c.again-words.result)) (are_within (form_in c).numbers c.again-words.result) ws) p.rest

second_is : (c : goal.After-ends_well-ended) → Leaves (the_state c.take_all.new.self.values.items
    c.take_all.new.self.filled c.take_all.new.self.ranged c.take_all.new.words) (form_in c).more
    c.of-numbers.new.words c.of-numbers.result.values.items c.of-numbers.result.filled
    c.of-numbers.result.ranged
second_is c =
    let p = c.take_all.ensures in
    record { values_are = p.values; filled_is = p.filled; ranged_is = p.ranged; words_are = p.rest }

both : (c : goal.After-ends_well-ended) → Tells (form_of c.args.line.now.keyword)
    c.args.line.now.words c.take_all.new.self.values.items c.text-text.result.now
    (c.are_whole-whole.result && c.ends_well-ended.result) c.take_all.new.self.ranged
both c =
    let form = form_in c in
    let filled = c.take_all.new.self.filled in
    let last = c.take_all.new.words in
    let text = c.text-text.result.now in
    let ended = c.ends_well-ended.ensures ∙ ap
    (λ (f : Form). option_map_or (λ most. is_word text) f.text (filled && (length last == 0)))
    (sym c.form.view_is) in
    let here : Tells form c.again-words.result c.take_all.new.self.values.items text
    (c.are_whole-whole.result && c.ends_well-ended.result) c.take_all.new.self.ranged =
    told form c.again-words.result
    (the_state c.of-numbers.result.values.items c.of-numbers.result.filled
    c.of-numbers.result.ranged c.of-numbers.new.words)
    (the_state c.take_all.new.self.values.items filled c.take_all.new.self.ranged last) text
    c.are_whole-whole.result c.ends_well-ended.result (first_is c) (second_is c)
    c.are_whole-whole.ensures c.text-text.ensures ended in
    let words : c.again-words.result ≡ c.args.line.now.words = c.again-words.ensures ∙ ap
    (λ (l : Line). l.words) c.line.view_is in
    subst (λ (ws : List (List ℕ)). Tells (form_of c.args.line.now.keyword) ws
    c.take_all.new.self.values.items text
    (c.are_whole-whole.result && c.ends_well-ended.result) c.take_all.new.self.ranged) words
    (subst (λ (f : Form). Tells f c.again-words.result c.take_all.new.self.values.items text
    (c.are_whole-whole.result && c.ends_well-ended.result) c.take_all.new.self.ranged)
    (c.form.view_is ∙ c.requires) here)

pub returns : goal.returns
returns c =
    let line = c.args.line.now in
    let told = both c in
    let ticks = c.ticks_of-ticks.ensures in
    let ranged = c.take_all.new.self.ranged in
    let few = option_map_or (is_within (between 0 most_ticks)) line.advance true in
    let few_is : c.ticks_of-ticks.result.1 ≡ few = ticks.few ∙ ap
    (λ (l : Line). option_map_or (is_within (between 0 most_ticks)) l.advance true) c.line.view_is
    in
    record {
      ticks = ticks.ticks ∙ ap
          (λ (l : Line). min (unwrap_or (option_and_then number_of l.advance) 0) (2 ^ 64 - 1))
          c.line.view_is;
      numbers = told.numbers_are;
      text = told.text_is;
      shaped = told.shaped_is;
      ranged = ap (λ (b : Bool). not (b && ranged)) few_is ∙ ap (λ (b : Bool). not (few && b))
          told.ranged_is;
    }
