-- The heap and the frame with which a run begins.
use Rattle.std.proofs.Common.{◌≡◌, inl, inr, ℕ, zero, suc, ◌+◌, ◌-◌, ◌<◌, ◌≤◌, Bool, true, false, List, [], ◌∷◌, ◌++◌, get_or, length, drop, map, replicate, Some, refl, sym, ap, ◌∙◌, arith, length-append}
use Rattle.std.specs.Prelude.{Option, None, slice_get, slice_set, nat_le, if◌then◌else◌, IfSome}
use Rattle.std.proofs.Math.Seq.{drop-cons}
use Rattle.std.proofs.lemmas.List.{length-replicate}
use Rattle.std.proofs.lemmas.Bool.{le-leb, lt-leb}
use Rattle.heap_bump.specs.Words.{Words, AreTaken, first_address, with_word}
use Rattle.isa.specs.Code.{Tables, IsCode}
use Rattle.isa.specs.declared.func.Func.{Func as Entry}
use Rattle.machine.specs.Inside.{Inside}
use Rattle.machine.proofs.Placed.{starts}
use Rattle.machine.specs.Machine.{Event, Last as Halt}
use Rattle.machine.specs.declared.run_state.Ending.TheVariants as Machine
use Rattle.simulation.specs.Outcome.{Outcome, Ends}
use Rattle.typed_syntax.specs.Types.{TypeTree, width}
use Rattle.typed_syntax.specs.Value.{zero_of}
use Rattle.typed_syntax.specs.Words.{words_of}
use Rattle.typed.specs.declared.expr.Const.{Const}
use Rattle.typed.specs.declared.expr.Const.TheVariants as constant
use Rattle.typed.specs.declared.program.PackageVariable.{PackageVariable}
use Rattle.typed.specs.View.{first_value, global_of, value_of}
use Rattle.value_laws.proofs.Zeros.{zero_value}
use Rattle.program_code.specs.Code.{word_of}
use Rattle.simulated_code.specs.Correct.{begun, first_words}
use Rattle.code_runs.specs.Runs.{IsBeginFault, IsHeapFault, begun_words, with_first}
use Rattle.code_runs.specs.declared.running.RunFault.{RunFault}
use Rattle.code_runs.specs.declared.running.RunFault.TheVariants as fault

-- the frame of a function lies inside its words where it is entered
pub begins : (t : Tables) → IsCode t → (f : ℕ) (fn : Entry) → slice_get t.funcs f ≡ Some fn → Inside t fn.frame fn.start 0
begins t is f fn e = record { f = f; fn = fn; owner = starts t f fn is e; is = e; room = omega arith }

-- how many words values begin with
pub zero_long : (t : TypeTree) → width t ≡ length (words_of (zero_of t))
zero_long t = sym (ap length (zero_value t).words ∙ length-replicate (width t) 0)

constant_words : (c : Const) → words_of (value_of c) ≡ word_of (value_of c) ∷ []
constant_words (constant.Int z) = refl
constant_words (constant.Bool true) = refl
constant_words (constant.Bool false) = refl

pub constant_long : (c : Const) → 1 ≡ length (words_of (value_of c))
constant_long c = sym (ap length (constant_words c))

-- a word that is taken after others gets its value
last_set : (ws : List ℕ) (x y : ℕ) → slice_set (ws ++ x ∷ []) (length ws) y ≡ ws ++ y ∷ []
last_set [] x y = refl
last_set (w ∷ ws) x y = ap (λ l. w ∷ l) (last_set ws x y)

word_taken : (ws : List ℕ) (at word : ℕ) → at ≡ first_address + length ws → with_word (ws ++ replicate 1 0) at word ≡ ws ++ word ∷ []
word_taken ws at word e = let i : at - first_address ≡ length ws = omega (arith, e) in ap (λ n. slice_set (ws ++ 0 ∷ []) n word) i ∙ last_set ws 0 word

-- words that are taken after others get the value that a variable begins with
pub words_taken : (t : TypeTree) (value : Option Const) (ws : List ℕ) (at asked : ℕ) → at ≡ first_address + length ws → asked ≡ length (words_of (first_value t value))
    → with_first (ws ++ replicate asked 0) at value ≡ ws ++ words_of (first_value t value)
words_taken t None ws at asked e n =
    let count : asked ≡ width t = n ∙ sym (zero_long t) in
    ap (λ k. ws ++ replicate k 0) count ∙ ap (λ l. ws ++ l) (sym (zero_value t).words)
words_taken t (Some c) ws at asked e n =
    let one : asked ≡ 1 = n ∙ sym (constant_long c) in
    ap (λ k. with_word (ws ++ replicate k 0) at (word_of (value_of c))) one ∙ word_taken ws at (word_of (value_of c)) e ∙ ap (λ l. ws ++ l) (sym (constant_words c))

-- so a constant's word is there
pub first_taken : (t : TypeTree) (value : Option Const) (ws more : List ℕ) (at asked : ℕ) → more ≡ ws ++ replicate asked 0 → at ≡ first_address + length ws → asked ≡ length (words_of (first_value t value)) → IfSome value (λ c. AreTaken more at 1)
first_taken t None ws more at asked same e n = tt
first_taken t (Some c) ws more at asked same e n =
    let one : asked ≡ 1 = n ∙ sym (constant_long c) in
    let long = ap length same in
    (omega (arith, e), omega (arith, e, one, long, length-append ws (replicate asked 0), length-replicate {A = ℕ} asked 0))

-- a test that was decided
pub gated : (b : Bool) (x y : Outcome Event Halt) → b ≡ true → (if b then x else y) ≡ x
gated true x y e = refl
gated false x y e = absurd (let f : false ≡ true = e in cc)

pub shut : (b : Bool) (x y : Outcome Event Halt) → b ≡ false → (if b then x else y) ≡ y
shut false x y e = refl
shut true x y e = absurd (let f : true ≡ false = e in cc)

-- one variable, and those after it
module _ (sites : List TypeTree) (gs : List PackageVariable) (i : ℕ) (g : PackageVariable) (l : i < length gs) (is : g ≡ get_or gs i g) (max : ℕ) (heap : List ℕ) (follow : List ℕ → Outcome Event Halt) where
  abbrev now : List (List ℕ)
  now = first_words (map (global_of sites) (drop i gs))

  abbrev behind : List (List ℕ)
  behind = first_words (map (global_of sites) (drop (i + 1) gs))

  split : now ≡ begun_words sites g ∷ behind
  split =
      let one : suc i ≡ i + 1 = omega arith in
      ap (λ (ys : List PackageVariable). first_words (map (global_of sites) ys)) (drop-cons gs i g l ∙ ap (λ (y : PackageVariable). y ∷ drop (suc i) gs) (sym is) ∙ ap (λ j. g ∷ drop j gs) one)

  begun_more : length heap + length (begun_words sites g) ≤ max → begun max heap now follow ≡ begun max (heap ++ begun_words sites g) behind follow
  begun_more room = ap (λ ws. begun max heap ws follow) split ∙ gated (nat_le (length heap + length (begun_words sites g)) max) _ _ (le-leb (length heap + length (begun_words sites g)) max room)

  begun_full : max < length heap + length (begun_words sites g) → begun max heap now follow ≡ Ends (record { ending = Machine.HeapLimit (length heap) (length (begun_words sites g)) max; heap = length heap })
  begun_full full = ap (λ ws. begun max heap ws follow) split ∙ shut (nat_le (length heap + length (begun_words sites g)) max) _ _ (lt-leb (length heap + length (begun_words sites g)) max full)

-- what stands in a list does not hang on what would stand behind it
same_item : (gs : List PackageVariable) (i : ℕ) (d e : PackageVariable) → i < length gs → get_or gs i d ≡ get_or gs i e
same_item [] i d e l = absurd (omega (arith, l))
same_item (g ∷ gs) zero d e l = refl
same_item (g ∷ gs) (suc i) d e l = same_item gs i d e (omega (arith, l))

pub step_begun : (sites : List TypeTree) (gs : List PackageVariable) (i : ℕ) → i < length gs → (g d : PackageVariable) → g ≡ get_or gs i d → (max : ℕ) (heap new : Words) → heap.max ≡ max
    → new ≡ record { words = heap.words ++ begun_words sites g; max = heap.max } → length heap.words + length (begun_words sites g) ≤ heap.max
    → (new.max ≡ max) × ((follow : List ℕ → Outcome Event Halt) → begun max heap.words (first_words (map (global_of sites) (drop i gs))) follow ≡ begun max new.words (first_words (map (global_of sites) (drop (i + 1) gs))) follow)
step_begun sites gs i l g d is max heap new same grown room = (
  ap (λ (h : Words). h.max) grown ∙ same,
  λ follow. begun_more sites gs i g l (is ∙ same_item gs i d g l) max heap.words follow (omega (arith, room, same)) ∙ ap (λ (h : Words). begun max h.words (first_words (map (global_of sites) (drop (i + 1) gs))) follow) (sym grown),
)

pub fault_begun : (sites : List TypeTree) (gs : List PackageVariable) (i : ℕ) → i < length gs → (g d : PackageVariable) → g ≡ get_or gs i d → (max : ℕ) (heap : Words) → heap.max ≡ max → (e : RunFault)
    → IsHeapFault (heap.max < length heap.words + length (begun_words sites g)) (length heap.words) (length (begun_words sites g)) heap.max e
    → (whole : List (List ℕ)) → ((follow : List ℕ → Outcome Event Halt) → begun max [] whole follow ≡ begun max heap.words (first_words (map (global_of sites) (drop i gs))) follow) → IsBeginFault max whole e
fault_begun sites gs i l g d is max heap same e (inl none) whole begins = inl none
fault_begun sites gs i l g d is max heap same e (inr full) whole begins =
    let used = length heap.words in let asked = length (begun_words sites g) in let passes = full.0 in
    inr (used, asked, full.1 ∙ ap (λ n. fault.HeapLimit used asked n) same, λ follow. begins follow ∙ begun_full sites gs i g l (is ∙ same_item gs i d g l) max heap.words follow (omega (arith, passes, same)))

-- after the last one
past : (gs : List PackageVariable) (i : ℕ) → length gs ≤ i → drop i gs ≡ []
past [] zero l = refl
past [] (suc i) l = refl
past (g ∷ gs) zero l = absurd (omega arith)
past (g ∷ gs) (suc i) l = past gs i (omega arith)

pub begun_all : (sites : List TypeTree) (gs : List PackageVariable) (i : ℕ) → length gs ≤ i → (max : ℕ) (heap : List ℕ) (follow : List ℕ → Outcome Event Halt) → begun max heap (first_words (map (global_of sites) (drop i gs))) follow ≡ follow heap
begun_all sites gs i l max heap follow = ap (λ (ys : List PackageVariable). begun max heap (first_words (map (global_of sites) ys)) follow) (past gs i l)
