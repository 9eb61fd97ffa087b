use Rattle.std.proofs.Common.{◌≡◌, ℕ, ◌-◌, drop, Some, inl, inr, sym, ap, ◌∙◌, subst, arith}
use Rattle.std.proofs.lemmas.Bool.{cases_eq}
use Rattle.struct_sizes.specs.declared.forms.Prefix.{Prefix}
use Rattle.struct_sizes.specs.Words.{base_words}
use Rattle.struct_sizes.specs.Faults.{prefix_fault, outer_fault}
use Rattle.struct_sizes.proofs.Steps.{at_level, next_agrees, next_fault, same_head}
use Rattle.struct_sizes.proofs.faults.level_fault.Goals as goal

pub returns-in-Some : goal.returns-in-Some
returns-in-Some c =
    let ps = c.args.t.now.prefixes.items in
    let level = c.loop-level.level in
    let p = c.index.result.now in
    let again = c.index-in-loop-level.result.now in
    let base = base_words c.args.table.now c.args.t.now.base in
    let words = c.prefix_words-words.result in
    let here = at_level ps level p (omega arith) (omega arith) c.index.ensures in
    let same = same_head again p (drop level ps) (sym (at_level ps level again (omega arith) (omega arith) c.index-in-loop-level.ensures) ∙ here) in
    let fault = ap (λ (q : Prefix). prefix_fault q words) same ∙ next_fault (drop (level - 1) ps) (drop level ps) p here base c.loop-level.words words c.prefix_words-words.ensures c.loop-level.invariant.1 in
    (sym fault ∙ sym c.prefix_fault.ensures ∙ c.in-Some.is, λ upper other less h. c.loop-level.invariant.2 upper other (omega (arith, less)) h)

pub loop-level-preserved : goal.loop-level-preserved
loop-level-preserved c =
    let ps = c.args.t.now.prefixes.items in
    let level = c.loop-level.level in
    let p = c.index.result.now in
    let again = c.index-in-loop-level.result.now in
    let base = base_words c.args.table.now c.args.t.now.base in
    let words = c.prefix_words-words.result in
    let here = at_level ps level p (omega arith) (omega arith) c.index.ensures in
    let same = same_head again p (drop level ps) (sym (at_level ps level again (omega arith) (omega arith) c.index-in-loop-level.ensures) ∙ here) in
    let fault = ap (λ (q : Prefix). prefix_fault q words) same ∙ next_fault (drop (level - 1) ps) (drop level ps) p here base c.loop-level.words words c.prefix_words-words.ensures c.loop-level.invariant.1 in (
      omega arith,
      next_agrees (drop (level - 1) ps) (drop level ps) p here base c.loop-level.words words c.prefix_words-words.ensures c.loop-level.invariant.1,
      λ upper other le h. elim (cases_eq upper (level - 1)) [
        | inl e ↦ c.in_default.not-Some other (c.prefix_fault.ensures ∙ fault ∙ subst (λ (n : ℕ). outer_fault (drop n ps) base ≡ Some other) e h)
        | inr differ ↦ c.loop-level.invariant.2 upper other (omega (arith, le, differ)) h
      ],
    )
