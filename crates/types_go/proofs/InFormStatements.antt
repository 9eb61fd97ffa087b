-- Typed statements are in form: sites are born in the order of the text, what is named is in scope, and each value has the type of its place.
use Rattle.std.proofs.Common.{◌≡◌, ◌<◌, ℕ, get_or, Bool, true, List, [], ◌∷◌, Option, Some, refl, sym, ap, ◌∙◌, subst, arith, length}
use Rattle.std.specs.Prelude.{option_and_then, slice_get}
use Rattle.std.specs.Option.{option_map}
use Rattle.syntax.specs.Statements.{ValueSpec, Guard, Stm, Stms, Els}
use Rattle.syntax.specs.Statements as tree
use Rattle.typed.specs.declared.program.Site.{Site}
use Rattle.typed_syntax.specs.Syntax.{St, Sts, Func, Program, block, if_stmt, break_stmt, continue_stmt, done, next, type_in, global_type}
use Rattle.typed.specs.Tables.{Table}
use Rattle.typed.specs.Trees.{trees}
use Rattle.typed.specs.Formed.{IsFormed}
use Rattle.typed_syntax.specs.Types.{TypeTree, ints}
use Rattle.typed_syntax.specs.Form.{declared_after, all_sites_after, scope_after, StFits, StsFit}
use Rattle.value_laws.proofs.Ascending.{all_ordered, sts_wider}
use Rattle.type_faults.specs.Given.{allowed}
use Rattle.type_faults.proofs.Options.{and_then_some, map_some, same_some}
use Rattle.names.specs.declared.scope.Known.{Known}
use Rattle.names.specs.Scope.{Scope, Signature, type_tree, type_trees, in_header, in_body, with_setting, opened, closed}
use Rattle.given_values.specs.Given.{known_type}
use Rattle.expression_types.specs.Typing.{seen}
use Rattle.given_values.proofs.ValuesFit.{Agrees}
use Rattle.given_values.proofs.NoSlices.{HoldsNoSlice}
use Rattle.signatures.proofs.Growth.{Extends, Package, package_of, extends_twice, Keeps, keeps_grows, grows_entries}
use Rattle.signatures.proofs.Visible.{Visible, visible_set, visible_opened, visible_kept, got_longer}
use Rattle.signatures.proofs.InFormEntries.{HasSites, Within, within_before, get_mapped}
use Rattle.simple_statements.specs.SimpleStatements.{Returns, spec_slots, before, returned, simple_statement, spec_statement, spec_statements, behind_spec, behind_specs}
use Rattle.simple_statements.proofs.SettledValues.{allowed_is}
use Rattle.simple_statements.proofs.Growth.{grows_specs}
use Rattle.simple_statements.proofs.InFormSimple.{ReturnsFit, simple_formed, return_formed}
use Rattle.types_go.specs.Statements.{Choice, chosen, alone, header, guard_head, clause_scope, clause_head, choice_of, loop_of, carries, looping, behind_loop, behind, behind_else, behind_all, statement, alternative, statements}
use Rattle.types_go.proofs.SettledStatements.{choice_some, loop_some}
use Rattle.types_go.proofs.StatementGrowth.{grows_header, grows_clause, keeps_block, keeps_else, keeps_choice, keeps_loop, keeps_loop_body, grows, grows_all}
use Rattle.types_go.proofs.InFormHeads.{Formed1, StsFormed, init_scope, head_scope, head_visible, guard_fits, choice_formed, clause_fits, loop_formed, loop_keeps, spec_formed}

-- the functions of a program have the parameters and results that these signatures say
abbrev pub AreSigned : Table → List (Option Signature) → List Func → Type 0
AreSigned T sigs fs = (f : ℕ) (sig : Signature) → option_and_then (λ o. o) (slice_get sigs f) ≡ Some sig
    → (func : Func) × (slice_get fs f ≡ Some func) × (func.param_types ≡ type_trees T sig.params) × (func.results ≡ type_trees T sig.results)

-- the package variables of a program have the types that are known of them
abbrev pub AreGlobals : Table → Package → Program → Type 0
AreGlobals T own p = (g k : ℕ) (x : Known) → slice_get own.globals g ≡ Some k → option_and_then (λ o. o) (slice_get own.values k) ≡ Some x → (g < length p.globals) × (global_type p g ≡ type_tree T (known_type x))

-- the scope after statements
abbrev pub scope_behind_all : List ℕ → Sts → List ℕ
scope_behind_all scope done = scope
scope_behind_all scope (next t b) = scope_behind_all (scope_after scope t) b

before_after : (m : ℕ) (a b : Sts) → all_sites_after m (before a b) ≡ all_sites_after (all_sites_after m a) b
before_after m done b = refl
before_after m (next t a) b = before_after (declared_after m t) a b

module _ (p : Program) (wanted1 : List TypeTree) (named : ℕ) where
  before_fits : (looped : Bool) (scope : List ℕ) (m n : ℕ) (a b : Sts) → StsFit p wanted1 named looped scope m n a → StsFit p wanted1 named looped (scope_behind_all scope a) (all_sites_after m a) n b → StsFit p wanted1 named looped scope m n (before a b)
  before_fits looped scope m n done b fa fb = fb
  before_fits looped scope m n (next t a) b fa fb = (fa.0, before_fits looped (scope_after scope t) (declared_after m t) n a b fa.1 fb)

module _ (T : Table) (text : List ℕ) (p : Program) (all : List Site) (has : HasSites T p all) (table_formed : IsFormed T) (no_slice : HoldsNoSlice T) (own : Package) (own_types : own.types ≡ T) (signed : AreSigned T own.signatures p.funcs) (numbered : AreGlobals T own p) where
  -- a scope of the package has its table
  typed : (s : Scope) → package_of s ≡ own → s.types ≡ T
  typed s g = ap (λ (q : Package). q.types) g ∙ own_types

  -- a scope before the end has what the program has
  pub agreed : (s : Scope) → package_of s ≡ own → Extends s.sites all → Agrees s p
  agreed s g e = record {
    sites = λ k site is.
        ap (λ (l : List TypeTree). get_or l k ints) has.sites ∙ get_mapped p.types all k site (ap (λ (l : List Site). slice_get l k) e.1 ∙ got_longer s.sites e.0 k site is)
        ∙ ap (λ (l : List TypeTree). type_in l site.type_id.0) (types_of s g);
    functions = λ f sig is.
        subst (λ (U : Table). (func : Func) × (slice_get p.funcs f ≡ Some func) × (func.param_types ≡ type_trees U sig.params) × (func.results ≡ type_trees U sig.results)) (sym (typed s g))
        (signed f sig (ap (λ (q : Package). option_and_then (λ o. o) (slice_get q.signatures f)) (sym g) ∙ is));
    globals = λ j k f at known.
        subst (λ (U : Table). (j < length p.globals) × (global_type p j ≡ type_tree U (known_type f))) (sym (typed s g))
        (numbered j k f (ap (λ (q : Package). slice_get q.globals j) (sym g) ∙ at) (ap (λ (q : Package). option_and_then (λ o. o) (slice_get q.values k)) (sym g) ∙ known));
    types = types_of s g;
    formed = subst IsFormed (sym (typed s g)) table_formed;
    no_slice = subst HoldsNoSlice (sym (typed s g)) no_slice;
  }
    where
      types_of : (r1 : Scope) → package_of r1 ≡ own → p.types ≡ trees r1.types
      types_of r1 same1 = has.types ∙ ap trees (sym (typed r1 same1))

  module _ (r : Returns) (wanted1 : List TypeTree) (named : ℕ) (goes : ReturnsFit T r wanted1 named) where
    -- statements in form, and what is shown after them
    abbrev Whole : (looped : Bool) → Scope → List ℕ → Scope → Sts → Type 0
    Whole looped s scope after b = StsFormed T text p all has wanted1 named looped s scope after b × Visible after (scope_behind_all scope b)

    one : (looped : Bool) (s after : Scope) (scope : List ℕ) (t : St) → Formed1 T text p all has wanted1 named looped s scope after t × Visible after (scope_after scope t) → Whole looped s scope after (alone t)
    one looped s after scope t f = (record { more = f.0.more; upto = f.0.upto; fit = λ n le. (f.0.fit n le, tt) }, f.1)

    -- a statement that keeps the scope
    kept : (looped : Bool) (s after : Scope) (scope : List ℕ) (t : St) → Visible s scope → Keeps s after → Formed1 T text p all has wanted1 named looped s scope after t → scope_after scope t ≡ scope → Whole looped s scope after (alone t)
    kept looped s after scope t v k f is = one looped s after scope t (f, subst (λ (w : List ℕ). Visible after w) (sym is) (visible_kept s after scope v k))

    jump : (looped : Bool) (s : Scope) (scope : List ℕ) (t : St) (b : Sts) → ((m : ℕ) → declared_after m t ≡ m) → (looped ≡ true → (m n : ℕ) → StFits p wanted1 named looped scope m n t) → scope_after scope t ≡ scope → Visible s scope → allowed looped (Some (alone t)) ≡ Some b → Whole looped s scope s b
    jump looped s scope t b none1 fits still v is =
        let a = allowed_is looped (Some (alone t)) b is in
        subst (λ (x : Sts). Whole looped s scope s x) (same_some a.1)
        (one looped s s scope t (record { more = omega arith; upto = omega (arith, none1 (length s.sites)); fit = λ n le. fits a.0 (length s.sites) n }, subst (λ (w : List ℕ). Visible s w) (sym still) v))

    specs_formed : (looped : Bool) (s : Scope) (scope : List ℕ) (vs : List ValueSpec) (b : Sts) → Visible s scope → package_of s ≡ own → Extends (behind_specs text s vs).sites all → spec_statements text s vs ≡ Some b
        → Whole looped s scope (behind_specs text s vs) b
    specs_formed looped s scope [] b v g ext is = subst (λ (x : Sts). Whole looped s scope s x) (same_some is) (record { more = omega arith; upto = omega arith; fit = λ n le. tt }, v)
    specs_formed looped s scope (spec ∷ vs) b v g ext is =
        let s1 = behind_spec text s spec in
        let q = and_then_some (λ t. option_map (next t) (spec_statements text s1 vs)) (spec_statement text s spec) b is in
        let k = map_some (next q.0) (spec_statements text s1 vs) b q.2 in
        let grow = grows_entries text s (spec_slots text s spec) in
        let ext1 = extends_twice s1.sites (behind_specs text s1 vs).sites all (grows_specs text s1 vs).sites ext in
        let ext0 = extends_twice s.sites s1.sites all grow.sites ext1 in
        let first = spec_formed T text p all has wanted1 named s scope v (typed s g) table_formed (λ r1 same1 e. agreed r1 (same1 ∙ g) e) looped spec q.0 ext0 ext1 q.1 in
        let rest = specs_formed looped s1 (scope_after scope q.0) vs k.0 first.1 (grow.kept ∙ g) ext k.1 in
        subst (λ (x : Sts). Whole looped s scope (behind_specs text s1 vs) x) k.2 (
          record {
            more = omega (arith, first.0.more, rest.0.more);
            upto = omega (arith, all_ordered (declared_after (length s.sites) q.0) (length s1.sites) first.0.upto k.0, rest.0.upto);
            fit = λ n le. (first.0.fit n (omega (arith, le, rest.0.more)), sts_wider p wanted1 named looped (scope_after scope q.0) (length s1.sites) (declared_after (length s.sites) q.0) n n first.0.upto (omega arith) k.0 (rest.0.fit n le));
          },
          rest.1,
        )

    -- an `if` of its parts
    choice_in : (looped : Bool) (s : Scope) (scope : List ℕ) (g1 : Guard) (body : Stms) (rest : Els) → Visible s scope → package_of s ≡ own
        → Within p all (closed (behind_else text (closed (behind_all text (opened (header text s g1.init)) body)) rest)) → (c : Choice) (y z : Sts) (t : St)
        → guard_head text s g1 ≡ Some c → chosen c y z ≡ t
        → ((sc : List ℕ) → Visible (header text s g1.init) sc → Within p all (behind_all text (opened (header text s g1.init)) body) → StsFormed T text p all has wanted1 named looped (opened (header text s g1.init)) sc (behind_all text (opened (header text s g1.init)) body) y)
        → ((sc : List ℕ) → Visible (closed (behind_all text (opened (header text s g1.init)) body)) sc → Within p all (behind_else text (closed (behind_all text (opened (header text s g1.init)) body)) rest)
        → StsFormed T text p all has wanted1 named looped (closed (behind_all text (opened (header text s g1.init)) body)) sc (behind_else text (closed (behind_all text (opened (header text s g1.init)) body)) rest) z)
        → Formed1 T text p all has wanted1 named looped s scope (closed (behind_else text (closed (behind_all text (opened (header text s g1.init)) body)) rest)) t × (scope_after scope t ≡ scope)
    choice_in looped s scope g1 body rest v g ext c y z t found same1 first second =
        let h = header text s g1.init in
        let inner = closed (behind_all text (opened h) body) in
        let last1 = behind_else text inner rest in
        let grow = grows_header text s g1.init in
        let ext2 = within_before p all inner last1 (keeps_grows inner last1 (keeps_else text inner rest)) ext in
        let ext1 = within_before p all h inner (keeps_grows h inner (keeps_block text h body)) ext2 in
        let fits = guard_fits T text p all has wanted1 named s scope v (typed s g) table_formed (λ r1 same2 e. agreed r1 (same2 ∙ g) e) looped g1 c found ext1 grow.kept in
        let sc = init_scope scope c.init in
        let shows = fits.0.visible in
        let a = first sc shows ext2 in
        let b1 = second sc (visible_kept h inner sc shows (keeps_block text h body)) ext in
        let whole = choice_formed T text p all has wanted1 named s scope v (typed s g) table_formed (λ r1 same2 e. agreed r1 (same2 ∙ g) e) looped h inner (closed last1) c y z fits (record { more = a.more; upto = a.upto; fit = a.fit }) (record { more = b1.more; upto = b1.upto; fit = b1.fit }) in
        let keeps = fits.0.keeps (if_stmt c.condition y z) (λ s1. refl) in
        (subst (λ (x : St). Formed1 T text p all has wanted1 named looped s scope (closed last1) x) same1 whole, ap (scope_after scope) (sym same1) ∙ keeps)

    mutual
      formed : (looped : Bool) (s : Scope) (scope : List ℕ) (m : Stm) (b : Sts) → Visible s scope → package_of s ≡ own → Within p all (behind text s m) → statement text r looped s m ≡ Some b → Whole looped s scope (behind text s m) b
      formed looped s scope (tree.var_stmt at specs) b v g ext is = specs_formed looped s scope specs b v g ext.0 is
      formed looped s scope (tree.simple m) b v g ext is =
          let q = map_some alone (simple_statement text s m) b is in
          let ext0 = (within_before p all s (behind text s (tree.simple m)) (grows text s (tree.simple m)) ext).0 in
          subst (λ (x : Sts). Whole looped s scope (behind text s (tree.simple m)) x) q.2
          (one looped s (behind text s (tree.simple m)) scope q.0 (simple_formed T text p all has wanted1 named looped s scope v (typed s g) (agreed s g ext0) m q.0 ext q.1))
      formed looped s scope (tree.block ms) b v g ext is =
          let inner = closed (behind_all text (opened s) ms) in
          let q = map_some (λ x. alone (block x)) (statements text r looped (opened s) ms) b is in
          let a = formed_all looped (opened s) scope ms q.0 (visible_opened s scope v) g ext q.1 in
          subst (λ (x : Sts). Whole looped s scope inner x) q.2 (kept looped s inner scope (block q.0) v (keeps_block text s ms) (record { more = a.more; upto = a.upto; fit = a.fit }) refl)
      formed looped s scope (tree.if_stmt at g1 body rest) b v g ext is =
          let h = header text s g1.init in
          let inner = closed (behind_all text (opened h) body) in
          let last1 = behind_else text inner rest in
          let u = map_some alone (choice_of (guard_head text s g1) (statements text r looped (opened h) body) (alternative text r looped inner rest)) b is in
          let q = choice_some (guard_head text s g1) (statements text r looped (opened h) body) (alternative text r looped inner rest) u.0 u.1 in
          let f = choice_in looped s scope g1 body rest v g ext q.0 q.1 q.2 u.0 q.3 q.6
          (λ sc sv se. formed_all looped (opened h) sc body q.1 (visible_opened h sc sv) ((grows_header text s g1.init).kept ∙ g) se q.4)
          (λ sc sv se. formed_else looped inner sc rest q.2 sv ((keeps_block text h body).kept ∙ ((grows_header text s g1.init).kept ∙ g)) se q.5) in
          subst (λ (x : Sts). Whole looped s scope (closed last1) x) u.2 (kept looped s (closed last1) scope u.0 v (keeps_choice text s g1 body rest) f.0 f.1)
      formed looped s scope (tree.for_stmt at c body) b v g ext is =
          let l = looping s c in
          let h = clause_scope text l c in
          let b0 = with_setting h (in_body h.setting) in
          let inner = closed (behind_all text (opened b0) body) in
          let after = behind_loop s (closed inner) in
          let v1 = visible_set s scope (in_header (carries c) s.setting) v.kinds v in
          let u = map_some alone (loop_of (clause_head text l c) (statements text r true (opened b0) body)) b is in
          let q = loop_some (clause_head text l c) (statements text r true (opened b0) body) u.0 u.1 in
          let grow = grows_clause text l c in
          let ext1 = within_before p all h inner (keeps_grows h inner (keeps_loop_body text h body)) ext in
          let fits = clause_fits T text p all has wanted1 named l scope v1 (typed s g) table_formed (λ r1 same1 e. agreed r1 (same1 ∙ g) e) looped c q.0 q.2 ext1 in
          let shows = head_visible T text p all has wanted1 named l scope v1 (typed s g) table_formed (λ r1 same1 e. agreed r1 (same1 ∙ g) e) looped h q.0 fits in
          let a = formed_all true (opened b0) (head_scope T text p all has wanted1 named l scope v1 (typed s g) table_formed (λ r1 same1 e. agreed r1 (same1 ∙ g) e) q.0) body q.1 (visible_opened b0 _ (visible_set h _ (in_body h.setting) shows.kinds shows)) (grow.kept ∙ g) ext q.3 in
          let whole = loop_formed T text p all has wanted1 named l scope v1 (typed s g) table_formed (λ r1 same1 e. agreed r1 (same1 ∙ g) e) looped h (closed inner) q.0 q.1 fits (record { more = a.more; upto = a.upto; fit = a.fit }) in
          let keeps = loop_keeps T text p all has wanted1 named l scope v1 (typed s g) table_formed (λ r1 same1 e. agreed r1 (same1 ∙ g) e) looped h q.0 q.1 fits in
          subst (λ (x : Sts). Whole looped s scope after x) u.2
          (kept looped s after scope u.0 v (keeps_loop text s c body) (subst (λ (x : St). Formed1 T text p all has wanted1 named looped s scope after x) q.4 (record { more = whole.more; upto = whole.upto; fit = whole.fit })) (ap (scope_after scope) (sym q.4) ∙ keeps))
      formed looped s scope (tree.break_stmt at) b v g ext is = jump looped s scope break_stmt b (λ m. refl) (λ l m n. l) refl v is
      formed looped s scope (tree.continue_stmt at) b v g ext is = jump looped s scope continue_stmt b (λ m. refl) (λ l m n. l) refl v is
      formed looped s scope (tree.return_stmt at es) b v g ext is =
          let q = map_some alone (returned r (seen text s es)) b is in
          subst (λ (x : Sts). Whole looped s scope s x) q.2 (one looped s s scope q.0 (return_formed T text p all has wanted1 named looped s scope v (typed s g) (agreed s g ext.0) r goes es q.0 q.1))

      formed_else : (looped : Bool) (s : Scope) (scope : List ℕ) (e : Els) (b : Sts) → Visible s scope → package_of s ≡ own → Within p all (behind_else text s e) → alternative text r looped s e ≡ Some b
          → StsFormed T text p all has wanted1 named looped s scope (behind_else text s e) b
      formed_else looped s scope tree.no_else b v g ext is = subst (λ (x : Sts). StsFormed T text p all has wanted1 named looped s scope s x) (same_some is) (record { more = omega arith; upto = omega arith; fit = λ n le. tt })
      formed_else looped s scope (tree.else_block ms) b v g ext is =
          let a = formed_all looped (opened s) scope ms b (visible_opened s scope v) g ext is in record { more = a.more; upto = a.upto; fit = a.fit }
      formed_else looped s scope (tree.else_if at g1 body rest) b v g ext is =
          let h = header text s g1.init in
          let inner = closed (behind_all text (opened h) body) in
          let last1 = behind_else text inner rest in
          let u = map_some alone (choice_of (guard_head text s g1) (statements text r looped (opened h) body) (alternative text r looped inner rest)) b is in
          let q = choice_some (guard_head text s g1) (statements text r looped (opened h) body) (alternative text r looped inner rest) u.0 u.1 in
          let f = choice_in looped s scope g1 body rest v g ext q.0 q.1 q.2 u.0 q.3 q.6
          (λ sc sv se. formed_all looped (opened h) sc body q.1 (visible_opened h sc sv) ((grows_header text s g1.init).kept ∙ g) se q.4)
          (λ sc sv se. formed_else looped inner sc rest q.2 sv ((keeps_block text h body).kept ∙ ((grows_header text s g1.init).kept ∙ g)) se q.5) in
          subst (λ (x : Sts). StsFormed T text p all has wanted1 named looped s scope (closed last1) x) u.2 (kept looped s (closed last1) scope u.0 v (keeps_choice text s g1 body rest) f.0 f.1).0

      pub formed_all : (looped : Bool) (s : Scope) (scope : List ℕ) (ms : Stms) (b : Sts) → Visible s scope → package_of s ≡ own → Within p all (behind_all text s ms) → statements text r looped s ms ≡ Some b
          → StsFormed T text p all has wanted1 named looped s scope (behind_all text s ms) b
      formed_all looped s scope tree.nil b v g ext is = subst (λ (x : Sts). StsFormed T text p all has wanted1 named looped s scope s x) (same_some is) (record { more = omega arith; upto = omega arith; fit = λ n le. tt })
      formed_all looped s scope (tree.cons m ms) b v g ext is =
          let s1 = behind text s m in
          let q = and_then_some (λ t. option_map (before t) (statements text r looped s1 ms)) (statement text r looped s m) b is in
          let k = map_some (before q.0) (statements text r looped s1 ms) b q.2 in
          let grow = grows text s m in
          let ext1 = within_before p all s1 (behind_all text s1 ms) (grows_all text s1 ms) ext in
          let first = formed looped s scope m q.0 v g ext1 q.1 in
          let others = formed_all looped s1 (scope_behind_all scope q.0) ms k.0 first.1 (grow.kept ∙ g) ext k.1 in
          subst (λ (x : Sts). StsFormed T text p all has wanted1 named looped s scope (behind_all text s1 ms) x) k.2
          (record {
            more = omega (arith, first.0.more, others.more);
            upto = omega (arith, before_after (length s.sites) q.0 k.0, all_ordered (all_sites_after (length s.sites) q.0) (length s1.sites) first.0.upto k.0, others.upto);
            fit = λ n le. before_fits p wanted1 named looped scope (length s.sites) n q.0 k.0 (first.0.fit n (omega (arith, le, others.more)))
                (sts_wider p wanted1 named looped (scope_behind_all scope q.0) (length s1.sites) (all_sites_after (length s.sites) q.0) n n first.0.upto (omega arith) k.0 (others.fit n le));
          })
