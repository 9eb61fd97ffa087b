use Rattle.std.proofs.Common.{◌≡◌, ℕ, Bool, List, Option, None, length, replicate, sym, ap, ◌∙◌, subst}
use Rattle.std.specs.Prelude.{slice_get, Some}
use Rattle.std.proofs.lemmas.List.{length-map}
use Rattle.components.specs.Graph.{rows}
use Rattle.components.specs.Components.{AreComponents, AreOnCycles, component_lists}
use Rattle.struct_sizes.specs.declared.faults.Flaw.{Flaw}
use Rattle.struct_sizes.specs.declared.verdicts.Verdict.{Verdict}
use Rattle.struct_sizes.specs.declared.verdicts.Verdict.TheVariants.{Sized}
use Rattle.struct_sizes.specs.Structs.{structs_of, holds, mentions}
use Rattle.struct_sizes.specs.Words.{IsTable}
use Rattle.struct_sizes.specs.Kept.{AgreeAll}
use Rattle.struct_sizes.specs.Filling.{AreFlaws, filled_all, judged_all}
use Rattle.struct_sizes.proofs.Filled.{is_table}
use Rattle.struct_sizes.proofs.Flaws.{says, unknown_refused}
use Rattle.struct_sizes.proofs.Judged.{IsBasis, all_size, all_right, all_heard}
use Rattle.struct_sizes.proofs.settling.settle.Goals as goal

pub returns : goal.returns
returns c =
    let ss = structs_of c.args.structs.now in
    let size : length ss ≡ length c.args.structs.now = length-map c.args.structs.now _ in
    let held = holds ss in
    let held_is : rows c.in_ok-held.held.items ≡ held = c.in_ok-held.ensures in
    let by_holding = component_lists c.in_ok-by_holding.by_holding.components.items in
    let cycles = c.in_ok-on_cycles.on_cycles.items in
    let holding : AreComponents held by_holding = subst (λ (t : List (List ℕ)). AreComponents t by_holding) (ap rows c.deref.ensures.value ∙ held_is) c.in_ok-by_holding.ensures in
    let on : AreOnCycles held cycles = subst (λ (t : List (List ℕ)). AreOnCycles t cycles) (ap rows c.deref-2.ensures.value ∙ held_is) c.in_ok-on_cycles.ensures in
    let table = c.in_ok-words.words.items in
    let begun : List (Option ℕ) = replicate (length c.args.structs.now) None in
    let exact = filled_all ss cycles begun by_holding in
    let kept : AgreeAll table exact = subst (λ (l : List Bool). AgreeAll table (filled_all ss l begun by_holding)) c.deref-3.ensures.value c.in_ok-words.ensures in
    let whole : IsTable ss exact = is_table ss cycles by_holding holding on (length c.args.structs.now) (sym size) in
    let flaws = c.in_ok-flaws.flaws.items in
    let are : AreFlaws table ss cycles flaws = subst (λ (l : List Bool). AreFlaws table ss l flaws) c.deref-4.ensures.value (subst (λ (l : List (Option ℕ)). AreFlaws l ss c.deref-4.result.now flaws) c.deref-5.ensures.value c.in_ok-flaws.ensures.1) in
    let mentioned_is : rows c.in_ok-mentioned.mentioned.items ≡ mentions ss = c.in_ok-mentioned.ensures in
    let comps = component_lists c.in_ok-by_mentioning.by_mentioning.components.items in
    let mentioning : AreComponents (mentions ss) comps = subst (λ (t : List (List ℕ)). AreComponents t comps) (ap rows c.deref-6.ensures.value ∙ mentioned_is) c.in_ok-by_mentioning.ensures in
    let basis : IsBasis ss table exact flaws comps = record {
      components = mentioning;
      same = kept;
      many = whole.size;
      says = says ss cycles table exact flaws on kept (c.in_ok-flaws.ensures.0 ∙ sym size) are;
      unknown = unknown_refused ss cycles exact on whole;
    } in
    let rows_is : rows c.deref-7.result.now ≡ mentions ss = ap rows c.deref-7.ensures.value ∙ mentioned_is in
    let many : length c.deref-7.result.now ≡ length (mentions ss) = sym (length-map c.deref-7.result.now _) ∙ ap length rows_is in
    let none : List Verdict = replicate (length (mentions ss)) (Sized 0) in
    let verdicts = c.in_ok-verdicts.verdicts.items in
    let is : verdicts ≡ judged_all (mentions ss) flaws table none comps
    = c.in_ok-verdicts.ensures
    ∙ ap (λ (t : List (List ℕ)). judged_all t c.deref-8.result.now c.deref-9.result.now (replicate (length c.deref-7.result.now) (Sized 0)) comps) rows_is
    ∙ ap (λ (f : List Flaw). judged_all (mentions ss) f c.deref-9.result.now (replicate (length c.deref-7.result.now) (Sized 0)) comps) c.deref-8.ensures.value
    ∙ ap (λ (w : List (Option ℕ)). judged_all (mentions ss) flaws w (replicate (length c.deref-7.result.now) (Sized 0)) comps) c.deref-9.ensures.value
    ∙ ap (λ (n : ℕ). judged_all (mentions ss) flaws table (replicate n (Sized 0)) comps) many in (
      exact,
      record {
        is_table = whole;
        kept = kept;
        size = ap length is ∙ all_size ss table exact flaws comps basis;
        verdicts = λ k v at. all_right ss table exact flaws comps basis k v (subst (λ (l : List Verdict). slice_get l k ≡ Some v) is at);
        heard = all_heard ss table exact flaws comps basis;
      },
    )
