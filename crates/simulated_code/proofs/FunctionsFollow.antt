-- The machine follows a function from its first instruction, and so every call.
use Rattle.std.proofs.Common.{◌≡◌, inl, inr, ℕ, zero, suc, ◌+◌, ◌-◌, ◌<◌, ◌≤◌, true, false, List, [], ◌∷◌, ◌++◌, length, Option, Some, None, refl, sym, ap, ◌∙◌, subst, arith}
use Rattle.std.specs.Prelude.{slice_get}
use Rattle.std.proofs.lemmas.List.{length-map, nil_from_length}
use Rattle.typed_syntax.specs.Types.{TypeTree}
use Rattle.typed_syntax.specs.Value.{Value}
use Rattle.typed_syntax.specs.Syntax.{Func, Program, argument_words, result_words, site_type, each_width}
use Rattle.typed_syntax.specs.Form.{AreOf, InScope, SitesNext, FuncFits, ParamsFit, named_params, scope_with, params_scope, scope_in, body_first, breaks_all, ends_all}
use Rattle.frames.specs.Frames.{widest, temps_of}
use Rattle.meaning.specs.Trace.{World}
use Rattle.meaning.specs.Meaning
use Rattle.meaning.specs.Meaning.{Env, Then, Ways, Calls, Setting}
use Rattle.isa.specs.declared.instr.Instr.{Instr}
use Rattle.machine.specs.Machine.{owner_of}
use Rattle.program_code.specs.Code.{slots_of, params_code, zeros_code, params_size, entry_code, entry_size, sts_code, sts_size, leave_code, values_code, func_code}
use Rattle.program_code.proofs.Sizes.{length_params, length_entry, length_sts, length_func}
use Rattle.program_code.proofs.Compiled.{Placed}
use Rattle.state_relation.specs.Leaves.{all_leaves}
use Rattle.state_relation.specs.Views.{View}
use Rattle.state_relation.specs.Relation.{Frame, fresh, placed, contents_of}
use Rattle.state_relation.proofs.Leaves.{all_leaves_length}
use Rattle.state_relation.proofs.Changes.{good_back}
use Rattle.state_relation.proofs.Built.{Built}
use Rattle.state_relation.proofs.Rules.{At, Stands, place_is, none_asked, given, seen}
use Rattle.state_relation.proofs.Calls.{Passing, Behind, Linked, called}
use Rattle.simulated_code.proofs.Standing.{Standing, front, back, standing, Panics}
use Rattle.simulated_code.proofs.Moves.{room_of, CallsFollow}
use Rattle.simulated_code.proofs.ReturnsFollow.{Home, Given, Returns, home_returns}
use Rattle.simulated_code.proofs.Scopes.{Scoped, with_has, with_below}
use Rattle.simulated_code.proofs.LeftsFollow.{named_next, named_after, zeros_follow}
use Rattle.simulated_code.proofs.Leading.{Leads}
use Rattle.simulated_code.proofs.StatementsFollow.{all_follow}
use Rattle.simulated_code.proofs.EntriesFollow.{params_follow}

-- results with names are in scope at the beginning of a body
named_in : (scope sites : List ℕ) (v : ℕ) → InScope v sites → InScope v (scope_with scope sites)
named_in scope [] v i = absurd i
named_in scope (site ∷ sites) v (inl e) = with_has (site ∷ scope) sites v (inl e)
named_in scope (site ∷ sites) v (inr i) = named_in (site ∷ scope) sites v i

params_below : (p : Program) (scope : List ℕ) (q : ℕ) (ts : List TypeTree) (ps : List (Option ℕ)) → ParamsFit p q ts ps → ((v : ℕ) → InScope v scope → v < q) → (v : ℕ) → InScope v (params_scope scope ps) → v < q + named_params ps
params_below p scope q [] [] fit below v i = let l = below v i in omega arith
params_below p scope q (t ∷ ts) [] fit below v i = absurd fit
params_below p scope q [] (o ∷ ps) fit below v i = absurd fit
params_below p scope q (t ∷ ts) (None ∷ ps) fit below v i = params_below p scope q ts ps fit below v i
params_below p scope q (t ∷ ts) (Some site ∷ ps) fit below v i =
    let e = fit.0 in
    let l = params_below p (site ∷ scope) (suc q) ts ps fit.3 (λ u j. elim j [ inl r ↦ omega arith | inr r ↦ (let k = below u r in omega arith) ]) v i in omega arith

-- no values of no types
pub none_of : (ts : List TypeTree) → length ts ≡ 0 → AreOf ts []
none_of [] e = tt
none_of (t ∷ ts) e = absurd (omega arith)

module _ (m : Built) (around : Setting) (strings : around.strings ≡ m.program.strings) (types : around.types ≡ m.program.types) (inputs : around.items ≡ m.items) (sites_are : around.sites ≡ m.program.sites) where
  no_values : (a : ℕ) (f : Func) → values_code (slots_of m.program m.placement f) a 0 f.named 0 ++ leave_code (slots_of m.program m.placement f) a f.named ≡ leave_code (slots_of m.program m.placement f) a f.named
  no_values a f = none f.named
    where
      none : (sites : List ℕ) → values_code (slots_of m.program m.placement f) a 0 sites 0 ++ leave_code (slots_of m.program m.placement f) a sites ≡ leave_code (slots_of m.program m.placement f) a sites
      none [] = refl
      none (site ∷ sites) = refl

  -- a function, from its first instruction
  module _ (n : ℕ) (callees : Calls) (cf : CallsFollow m callees n) (f : ℕ) (func : Func) (named : slice_get m.program.funcs f ≡ Some func) (place : Placed m.program m.placement m.code f func) where
    fit : FuncFits m.program func
    fit = m.fits f func named

    has : Standing m.code f place.start (func_code m.program m.placement func place.start)
    has = standing m.code f place.start (func_code m.program m.placement func place.start) place.stands (λ i l. place.owned i (omega (arith, length_func m.program m.placement func place.start)))

    abbrev start : ℕ
    start = place.start + entry_size m.program m.placement func

    abbrev body : List Instr
    body = sts_code m.program (argument_words func) func.named (slots_of m.program m.placement func) func.body 0 0 0 start

    abbrev ending : List Instr
    ending = leave_code (slots_of m.program m.placement func) (argument_words func) func.named

    has_entry : Standing m.code f place.start (entry_code m.program m.placement func)
    has_entry = front m.code f place.start (entry_code m.program m.placement func) (body ++ ending) has

    has_params : Standing m.code f place.start (params_code (slots_of m.program m.placement func) (each_width func.param_types) func.params 0)
    has_params = front m.code f place.start (params_code (slots_of m.program m.placement func) (each_width func.param_types) func.params 0) (zeros_code (slots_of m.program m.placement func) func.named) has_entry

    has_zeros : Standing m.code f (place.start + params_size m.placement func.params) (zeros_code (slots_of m.program m.placement func) func.named)
    has_zeros = back m.code f place.start (params_size m.placement func.params) (params_code (slots_of m.program m.placement func) (each_width func.param_types) func.params 0) (zeros_code (slots_of m.program m.placement func) func.named) (length_params (slots_of m.program m.placement func) (each_width func.param_types) func.params 0) has_entry

    has_rest : Standing m.code f start (body ++ ending)
    has_rest = back m.code f place.start (entry_size m.program m.placement func) (entry_code m.program m.placement func) (body ++ ending) (length_entry m.program m.placement func) has

    has_end : Standing m.code f (start + sts_size m.program (argument_words func) func.named func.body) ending
    has_end = back m.code f start (sts_size m.program (argument_words func) func.named func.body) body ending (length_sts m.program (argument_words func) func.named (slots_of m.program m.placement func) func.body 0 0 0 start) has_rest

    -- where the end of the body is met, there are no results
    no_results : ends_all func.body ≡ false → length func.results ≡ 0
    no_results goes = elim fit.end [ inl e ↦ ap (λ l. length l) e | inr e ↦ absurd cc (sym e ∙ goes) ]

    no_names : ends_all func.body ≡ false → length func.named ≡ 0
    no_names goes = elim fit.names [ inl e ↦ ap (λ l. length l) e | inr e ↦ sym (length-map func.named (site_type m.program)) ∙ ap (λ l. length l) e ∙ no_results goes ]

    no_sites : ends_all func.body ≡ false → func.named ≡ []
    no_sites goes = nil_from_length func.named (no_names goes)

    next_named : SitesNext m.program (func.first + named_params func.params) (func.first + func.count) func.named
    next_named = let count = fit.count in named_next m.program (func.first + named_params func.params) (func.first + func.count) func.named fit.named (omega arith)

    scoped : Scoped func (scope_in func) (body_first func)
    scoped = record {
      named = named_in (params_scope [] func.params) func.named;
      below = λ v i. subst (λ k. v < k) (named_after m.program (func.first + named_params func.params) func.named fit.named)
          (with_below m.program (params_scope [] func.params) (func.first + named_params func.params) (func.first + func.count) func.named next_named (params_below m.program [] func.first func.param_types func.params fit.params (λ u j. absurd j)) v i);
      from = omega arith;
    }

    pub body_follows : (calls : List Frame) (vs : List Value) (ws : Ways) (env0 : Env) (k : Then (List Value)) (v : View) (w : World) (lo b : ℕ) → b ≤ suc n → Linked m f calls → Panics ws → AreOf func.param_types vs → argument_words func + result_words func ≤ room_of m calls → Home m lo b func calls k
        → At m lo 0 b v (Meaning.births (λ e. Meaning.bear_params around e func.params vs (λ x. 0) (λ env1. Meaning.bear_zeros around e func.named env1 (λ env2. Meaning.exec_all around callees (suc n) func.body (Meaning.ways_in func.named e ws env0 k) env2 (Meaning.leave func.named e k [])))) w)
        (λ s. Stands m v w (fresh f func ∷ calls) s × Passing m v w calls (all_leaves func.param_types) (contents_of vs) 0 s) place.start
    body_follows calls vs ws env0 k v w lo b le from stops typed room home =
        let entry = length w.store in let c = fresh f func in let count = fit.count in
        let returns : Returns m lo b c calls (Meaning.leave func.named entry k) = home_returns m c calls k entry lo b from room home fit.names in
        let here : place.start + entry_size m.program m.placement func ≡ place.start + params_size m.placement func.params + length func.named = omega arith in
        let leads : Leads m c calls [] false (breaks_all func.body) (scope_in func) (scope_in func) 0 0 lo b (Meaning.ways_in func.named entry ws env0 k) =
        record { panics = λ at x env1 w1. stops at x env0 w1; around = λ u i. i; broken = λ t e. absurd (let f : false ≡ true = t in cc); continued = λ t. absurd (let f : false ≡ true = t in cc); returned = returns } in
        params_follow m around sites_are c calls func.params func.param_types vs (λ x. 0) [] entry _ v w func.first 0 place.start lo b typed has_params fit.params (omega arith) (omega arith) (omega arith) (omega arith) (λ env1 w1 v1.
        zeros_follow m around sites_are func.named c env1 (params_scope [] func.params) [] calls entry _ v1 w1 (func.first + named_params func.params) (place.start + params_size m.placement func.params) lo b has_zeros next_named (omega arith) (λ env2 w2 v2.
        place_is m here (all_follow m around strings types inputs sites_are callees n cf c calls func.body (Meaning.ways_in func.named entry ws env0 k) env2 (Meaning.leave func.named entry k []) v2 w2 [] 0 false (scope_in func) (scope_in func) (body_first func) 0 0 start lo b le refl
        (front m.code f start body ending has_rest) fit.body (omega arith) (omega arith) scoped leads
        (λ goes env3 w3 v3. returns [] [] 0 env3 (scope_in func) [] v3 w3 0 (start + sts_size m.program (argument_words func) func.named func.body) refl
        (subst (λ l. Standing m.code f (start + sts_size m.program (argument_words func) func.named func.body) l) (sym (no_values (argument_words func) func)) has_end)
        (nothing_given goes) (subst (λ l. widest m.program l ≤ temps_of m.program m.placement func) (sym (no_sites goes)) (omega arith)) scoped.named))))
      where
        nothing_given : ends_all func.body ≡ false → Given m func 0 [] []
        nothing_given goes = inr (refl, refl, no_names goes ∙ sym (no_results goes))

  pub calls_follow : (n : ℕ) → CallsFollow m (Meaning.call_at around m.program.funcs n) n
  calls_follow zero = record { by = λ f func vs c calls ws env k v w pc lo b le named here own stops typed room post. none_asked m le }
  calls_follow (suc n) = record {
    by = λ f func vs c calls ws env k v w pc lo b le named here own stops typed room post.
        let place = m.compiled.placed f func named in let callees = Meaning.call_at around m.program.funcs n in
        let before : pc ≡ pc + 1 - 1 = omega arith in
        let from : Behind m f (placed c (pc + 1)) = record { some = omega arith; call = ap (slice_get m.code.instrs) (sym before) ∙ here; owner = ap (owner_of m.code) (sym before) ∙ own } in
        subst (λ o. At m (suc lo) 1 b v (Meaning.run_body around m.program.funcs callees (suc n) f o vs ws env k w) (λ s. Stands m v w (c ∷ calls) s × Passing m v w (c ∷ calls) (all_leaves func.param_types) (contents_of vs) 0 s) pc) (sym named)
        (seen m _ (called m c calls v w f func (all_leaves func.param_types) (contents_of vs) pc lo b _ place named here own (all_leaves_length func.param_types) room
        (body_follows n callees (calls_follow n) f func named place (placed c (pc + 1) ∷ calls) vs ws env k _ w lo b le from stops typed room
        (λ rs w1 v1 are. given m (λ s g. (good_back m.program m.placement m.max m.leading v1 w1 c calls s (pc + 1) g.0, g.1)) (post rs w1 v1 are)))));
  }
