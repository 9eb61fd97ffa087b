-- The machine follows a program.
use Rattle.std.proofs.Common.{◌≡◌, ℕ, zero, suc, ◌+◌, ◌-◌, ◌^◌, ◌≤◌, Bool, true, false, List, [], ◌∷◌, ◌++◌, length, Option, Some, refl, sym, ap, ◌∙◌, subst, arith}
use Rattle.std.specs.Prelude.{slice_get, nat_le, replicate, if◌then◌else◌}
use Rattle.typed_syntax.specs.Value.{Value, IsOf, FitsWords, LeadsNowhere}
use Rattle.std.proofs.lemmas.Bool.{leb-true}
use Rattle.std.proofs.lemmas.List.{nil_from_length}
use Rattle.typed_syntax.specs.Syntax.{Func, Program, argument_words, result_words, all_width, site_type}
use Rattle.typed_syntax.specs.Form.{AreOf, IsInForm}
use Rattle.frames.specs.Placement.{Placement, IsPlaced}
use Rattle.frames.specs.Frames.{frame_in, frame_of}
use Rattle.meaning.specs.Trace.{Exit, StackLimit, World}
use Rattle.meaning.specs.Meaning
use Rattle.meaning.specs.Meaning.{Setting, Item}
use Rattle.meaning.specs.Output.{Sight, Last, last, used_by, out}
use Rattle.simulation.specs.Outcome as Run
use Rattle.simulation.specs.Outcome.{Lines, Outcome}
use Rattle.simulation.specs.Follows.{Follows}
use Rattle.heap_bump.specs.Words.{Words}
use Rattle.isa.specs.Code.{Tables}
use Rattle.machine.specs.Machine as Machine
use Rattle.machine.specs.Machine.{Event, Last as Stopped}
use Rattle.machine.specs.declared.run_state.Ending.TheVariants.{StackLimit as Limit}
use Rattle.program_code.specs.Code.{entry_of}
use Rattle.program_code.proofs.Compiled.{Compiled}
use Rattle.state_relation.specs.Views.{View, after_call, nothing_yet, out_from}
use Rattle.state_relation.specs.Relation.{Memory, to_heap, Good, fresh, sites_of}
use Rattle.state_relation.specs.Alike.{same_event, same_last, AreNumbers}
use Rattle.state_relation.proofs.Leaves.{all_leaves_length}
use Rattle.state_relation.proofs.Views.{same_sight}
use Rattle.state_relation.proofs.Crossing.{good_none, call_enters}
use Rattle.state_relation.proofs.Built.{Built}
use Rattle.simulated_code.specs.Correct.{limits, first_words, entered, target, Simulated}
use Rattle.simulated_code.proofs.PackageBirths.{AllFit, AllOn, none_before, first_store, first_range, globals_follow}
use Rattle.simulated_code.proofs.Moves.{params_length}
use Rattle.simulated_code.proofs.FunctionsFollow.{none_of, body_follows, calls_follow}

-- the first frame's limit is met by both or by neither, with as many words of the heap taken
module _ (strings : List (List ℕ)) (max taken heap b : ℕ) (same : taken ≡ heap) (t : Lines Sight Last) (run : ℕ → Outcome Event Stopped) where
  abbrev Goes : Lines Sight Last → (ℕ → Outcome Event Stopped) → Type 0
  Goes u m = Follows Sight Event Last Stopped same_event (same_last strings) 0 0 b u m

  abbrev full : ℕ → Outcome Event Stopped
  full frame = Run.Ends (record { ending = Limit 0 frame max; heap = heap })

  gate : (test : Bool) (frame : ℕ) → (test ≡ true → Goes t run) → Goes (if test then t else Run.End (last taken (StackLimit 0 frame max))) (λ k. if test then run k else full frame)
  gate true frame f = f refl
  gate false frame f = record { lower = λ n k le. ((refl, refl, refl), same); upper = λ n k lt le. ((refl, refl, refl), same) }

  first_gate : (asked frame : ℕ) → asked ≡ frame → (frame ≤ max → Goes t run) → Goes (if nat_le (0 + asked) max then t else Run.End (last taken (StackLimit 0 asked max))) (λ k. if nat_le frame max then run k else full frame)
  first_gate asked frame e f =
      let none : frame ≡ 0 + frame = omega arith in
      subst (λ x. Goes (if nat_le (0 + x) max then t else Run.End (last taken (StackLimit 0 x max))) (λ k. if nat_le frame max then run k else full frame)) (sym e)
      (subst (λ x. Goes (if nat_le x max then t else Run.End (last taken (StackLimit 0 frame max))) (λ k. if nat_le frame max then run k else full frame)) none
      (gate (nat_le frame max) frame (λ fits. f (leb-true frame max fits))))

-- the frame of the first call, whose link and place to return to are 0
abbrev no_caller : List ℕ
no_caller = 0 ∷ (0 ∷ [])

all_zero : (frame : ℕ) → 2 ≤ frame → Machine.entered frame 0 0 [] ≡ replicate frame 0
all_zero zero le = absurd (omega arith)
all_zero (suc zero) le = absurd (omega arith)
all_zero (suc (suc n)) le = ap (λ k. ◌++◌ {A = ℕ} (replicate k 0) no_caller) (let e : suc (suc n) - 2 ≡ n = omega arith in e) ∙ end n
  where
    end : (n : ℕ) → ◌++◌ {A = ℕ} (replicate n 0) no_caller ≡ replicate (suc (suc n)) 0
    end zero = refl
    end (suc n) = ap (λ l. 0 ∷ l) (end n)

module _ (p : Program) (pl : Placement) (code : Tables) (compiled : Compiled p pl code) (texts : code.strings ≡ p.strings) (form : IsInForm p) (are_placed : IsPlaced p pl) (items : ℕ → Item) (numbers_are : AreNumbers items) (max heap_max : ℕ) (roomy : max ≤ 2 ^ 32) (small : heap_max ≤ 2 ^ 32) where
  abbrev around : Setting
  around = Meaning.setting_of items p

  all_fit : (gs : List (ℕ × Value)) → ((i : ℕ) (g : ℕ × Value) → slice_get gs i ≡ Some g
      → IsOf (site_type p g.0) g.1 × FitsWords g.1 × LeadsNowhere g.1) → AllFit p.sites gs
  all_fit [] is = tt
  all_fit (g ∷ gs) is = (is 0 g refl, all_fit gs (λ i h e. is (suc i) h e))

  all_on : (gs : List (ℕ × Value)) → ((i : ℕ) (g : ℕ × Value) → slice_get gs i ≡ Some g → pl.on_heap g.0 ≡ true) → AllOn pl.on_heap gs
  all_on [] are = tt
  all_on (g ∷ gs) are = (are 0 g refl, all_on gs (λ i h e. are (suc i) h e))

  globals_fit : AllFit p.sites p.globals
  globals_fit = all_fit p.globals (λ i g e. let fits = form.globals i g e in (fits.value.0, fits.value.1, fits.alone))

  abbrev built : Built
  built = record { program = p; placement = pl; leading = to_heap; apart = refl; code = code; max = max; heap_max = heap_max; roomy = roomy; heap_roomy = small; items = items; fits = form.fits; solid = form.solid; placed = are_placed; strings = texts; numbers = numbers_are; compiled = compiled }

  abbrev Paced : (b : ℕ) → Lines Sight Last → (ℕ → Outcome Event Stopped) → Type 0
  Paced b t run = Follows Sight Event Last Stopped same_event (same_last p.strings) 0 0 b t run

  -- `main` is entered without a call
  module _ (n b : ℕ) (le : b ≤ suc n) (v : View) (w : World) (heap : List ℕ) where
    abbrev program_store : List ℕ → Memory
    program_store words = first_store max heap words

    main_follows : (func : Func) → slice_get p.funcs p.main ≡ Some func → func.params ≡ [] → func.results ≡ [] → Good p pl max to_heap v w [] (program_store []) → length p.globals ≤ length w.store
        → Paced b (out_from p pl (limits p pl max heap_max) v (first_range max) (Meaning.call_at around p.funcs (suc n) p.main [] Meaning.at_top (λ x. 0) (λ rs. Meaning.stop (Exit 0)) w))
        (entered code items max (record { words = heap; max = heap_max }) (slice_get code.funcs p.main))
    main_follows func named no_params no_results g began =
        let callees = Meaning.call_at around p.funcs n in let l = limits p pl max heap_max in let r = first_range max in
        let place = compiled.placed p.main func named in
        let first : Words = record { words = heap; max = heap_max } in
        let none : length {A = Option ℕ} [] ≡ length func.params = ap (λ l. length l) (sym no_params) in
        let no_words : result_words func ≡ 0 = ap all_width no_results in
        let types_none : length func.param_types ≡ 0 = params_length p func.first func.param_types func.params (form.fits p.main func named).params ∙ sym none in
        let no_arguments : argument_words func ≡ 0 = ap all_width (nil_from_length func.param_types types_none) in
        let typed : AreOf func.param_types [] = none_of func.param_types types_none in
        let stop = λ (rs : List Value). Meaning.stop (Exit 0) in
        let inside : Meaning.Go = Meaning.births (λ e. Meaning.bear_params around e func.params [] (λ x. 0) (λ env1. Meaning.bear_zeros around e func.named env1 (λ env2. Meaning.exec_all around callees (suc n) func.body (Meaning.ways_in func.named e Meaning.at_top (λ x. 0) stop) env2 (Meaning.leave func.named e stop [])))) in
        subst (λ o. Paced b (out_from p pl l v r (Meaning.run_body around p.funcs callees (suc n) p.main o [] Meaning.at_top (λ x. 0) stop w)) (entered code items max first (slice_get code.funcs p.main))) (sym named)
        (subst (λ o. Paced b (out_from p pl l v r (Meaning.run_body around p.funcs callees (suc n) p.main (Some func) [] Meaning.at_top (λ x. 0) stop w)) (λ k. entered code items max first o k)) (sym place.entry)
        (subst (λ c. Paced b (if nat_le (used_by l c + frame_in p pl (slice_get p.funcs p.main)) max then out_from p pl l (after_call v p.main) r (inside w) else Run.End (last v.heap (StackLimit (used_by l c) (frame_in p pl (slice_get p.funcs p.main)) max)))
        (λ k. entered code items max first (Some (entry_of p pl func place.start)) k)) (sym g.homed.calling)
        (first_gate p.strings max v.heap (length heap) b (sym g.sized.heap_used) _ _ (frame_in p pl (slice_get p.funcs p.main)) (frame_of p pl func) (ap (frame_in p pl) named)
        (λ fits. ((body_follows built around refl refl refl refl n callees (calls_follow built around refl refl refl refl n) p.main func named place [] [] Meaning.at_top (λ x. 0) stop (after_call v p.main) w 0 b le tt (λ at x env1 w1. refl) typed (omega (arith, no_words, no_arguments)) (λ rs w1. refl)).at
        (λ k. program_store (replicate (frame_of p pl func) 0)) (λ k. (stands func named fits g began, λ j lt. absurd (omega (arith, all_leaves_length func.param_types, no_arguments))))).each 0))))
      where
        stands : (func : Func) → slice_get p.funcs p.main ≡ Some func → frame_of p pl func ≤ max → Good p pl max to_heap v w [] (program_store []) → length p.globals ≤ length w.store → Good p pl max to_heap (after_call v p.main) w (fresh p.main func ∷ []) (program_store (replicate (frame_of p pl func) 0))
        stands func named fits g began =
            subst (λ ws. Good p pl max to_heap (after_call v p.main) w (fresh p.main func ∷ []) (program_store ws)) (all_zero (frame_of p pl func) (omega arith))
            (call_enters p pl max to_heap v w p.main func [] (program_store []) 0 0 named began (omega arith) refl refl g)

  -- the births of the package variables, and `main`
  whole_follows : (n b : ℕ) → b ≤ suc n → Paced b (out (limits p pl max heap_max) [] 0 (Meaning.trace items p n)) (target code items (first_words p.globals) p.main max heap_max)
  whole_follows n b le =
      let main = Meaning.call_at around p.funcs (suc n) p.main [] Meaning.at_top (λ x. 0) (λ rs. Meaning.stop (Exit 0)) in
      subst (λ t. Paced b t (target code items (first_words p.globals) p.main max heap_max)) (same_sight p pl (limits p pl max heap_max) nothing_yet (first_range max) (Meaning.trace items p n))
      (globals_follow p pl (limits p pl max heap_max) small around refl main (λ ws. entered code items max (record { words = ws; max = heap_max }) (slice_get code.funcs p.main)) b p.globals 0 nothing_yet Meaning.beginning [] (λ j. ap (slice_get p.globals) (let e : j ≡ 0 + j = omega arith in e)) (omega arith) (all_on p.globals are_placed.globals) globals_fit
      (record { good = good_none p pl max to_heap (first_store max [] []) refl refl refl (omega arith) (omega arith) refl; count = refl; before = sym (none_before p.sites (sites_of p.globals)); room = omega arith })
      (λ v1 w1 heap1 g. main_follows n b le v1 w1 heap1 form.main.0 form.main.1 form.main.2 form.main.3 g.good (let c = g.count in omega arith)))

-- the code of a program in form does what the program means
pub simulated : (p : Program) (pl : Placement) (code : Tables) → Compiled p pl code → IsInForm p → IsPlaced p pl → code.strings ≡ p.strings → Simulated p pl code
simulated p pl code compiled form are_placed texts = record {
  at_least = λ items are max heap_max n k roomy small le. (whole_follows p pl code compiled texts form are_placed items are max heap_max roomy small n 0 (omega arith)).lower n k (omega arith);
  at_most = λ items are max heap_max k roomy small. (whole_follows p pl code compiled texts form are_placed items are max heap_max roomy small k (suc k) (omega arith)).upper k k (omega arith) (omega arith);
}
