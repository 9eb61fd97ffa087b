-- Typed headers and declarations are in form.
use Rattle.std.proofs.Common.{◌≡◌, ℕ, ◌≤◌, Bool, true, false, cond, List, [], ◌∷◌, inl, inr, map, Option, Some, None, refl, sym, ap, ◌∙◌, subst, arith, length}
use Rattle.std.specs.Prelude.{option_and_then, is_some}
use Rattle.std.specs.Option.{option_map}
use Rattle.std.proofs.lemmas.List.{length-map}
use Rattle.syntax.specs.declared.expression.Name.{Name}
use Rattle.syntax.specs.Expressions.{Ex as TreeEx}
use Rattle.syntax.specs.Statements.{Simple, ValueSpec, Guard, Clause, forever, while_true, counting, ranging}
use Rattle.syntax.specs.Statements as tree
use Rattle.typed.specs.declared.program.Site.{Site}
use Rattle.typed_syntax.specs.Syntax.{Ex, Left, St, Sts, Program, blank, new, to, declare, assign, update, bump, discard, block, if_stmt, for_stmt, range, break_stmt, continue_stmt, return_stmt, print, panic, exit, done}
use Rattle.typed_syntax.specs.Types.{TypeTree, bools}
use Rattle.typed_syntax.specs.Form.{InScope, AllInScope, lefts_after, over_after, declared_after, all_sites_after, scope_behind, scope_after, TestFits, ExFits, StFits, StsFit}
use Rattle.value_laws.proofs.Ascending.{declared_ordered, all_ordered, st_wider, sts_wider}
use Rattle.base.specs.declared.value_type.ValueType.{ValueType}
use Rattle.typed.specs.Tables.{Table}
use Rattle.typed.specs.Formed.{IsFormed}
use Rattle.type_faults.proofs.Options.{and_then_some, map_some, none_some, same_some}
use Rattle.names.specs.Scope.{Scope, type_trees, opened}
use Rattle.given_values.specs.declared.wants.Wanted.{Wanted}
use Rattle.given_values.specs.declared.wants.Wanted.TheVariants as wants
use Rattle.given_values.specs.Given.{taken, value_types, wanted_by}
use Rattle.expression_types.specs.Typing.{stated_type, declared_wanted, spec_wanted, seen, condition, test}
use Rattle.given_values.proofs.ValuesFit.{Agrees, AreAccepted, OptionalFits, AllFit, taken_fits}
use Rattle.expression_types.proofs.InForm.{seen_fit, condition_fits, test_fits}
use Rattle.signatures.specs.declared.slots.Slot.{Slot}
use Rattle.signatures.specs.declared.entries.Role.TheVariants.{Parameter}
use Rattle.signatures.specs.Entries.{sites_of, entry_left, slot_with, slots_each}
use Rattle.signatures.proofs.Growth.{Extends, package_of, keeps_grows, grows_types}
use Rattle.signatures.proofs.Visible.{Visible, shown_site, shown_number, visible_opened, visible_kept}
use Rattle.signatures.proofs.InFormEntries.{HasSites, Within, within_before, SlotsHave, each_have, with_have, lefts_upto, sites_upto, left_scope, named_scope_of, lefts_of_params, next_of_params, entries_fit}
use Rattle.simple_statements.specs.SimpleStatements.{is_bare, simple_statement, spec_slots_of, spec_slots, behind_spec, spec_entries, is_known, spec_declared, spec_assigned, spec_statement, taken_types}
use Rattle.simple_statements.proofs.SettledValues.{allowed_is}
use Rattle.simple_statements.proofs.SettledSimple.{assignment_some}
use Rattle.simple_statements.proofs.Growth.{grows_simple}
use Rattle.simple_statements.proofs.InFormSimple.{Formed, StFormed, Still, accepted_long, simple_still, simple_formed}
use Rattle.types_go.specs.Ranges.{behind_range, range_in}
use Rattle.types_go.specs.Statements.{Choice, Head, for_clause, range_clause, alone, new_in, declared_in, headed, chosen, for_of, header, init_statement, post_simple, post_statement, behind_post_simple, behind_post, guard_head, clause_scope, clause_head}
use Rattle.types_go.proofs.InFormRanges.{RangeFits, range_scope, range_fits}
use Rattle.types_go.proofs.StatementGrowth.{grows_header, keeps_post}

-- ---- init statements

abbrev pub init_scope : List ℕ → Option St → List ℕ
init_scope scope None = scope
init_scope scope (Some t) = scope_after scope t

-- all that was in scope is in a wider one
widened : (v : ℕ) (scope : List ℕ) (ls : List Left) → InScope v scope → InScope v (scope_behind scope ls)
widened v scope [] h = h
widened v scope (blank ∷ ls) h = widened v scope ls h
widened v scope (to q ∷ ls) h = widened v scope ls h
widened v scope (new site ∷ ls) h = widened v (site ∷ scope) ls (inr h)

new_in_scope : (scope : List ℕ) (ls : List Left) → AllInScope (scope_behind scope ls) (new_in ls)
new_in_scope scope [] = tt
new_in_scope scope (blank ∷ ls) = new_in_scope scope ls
new_in_scope scope (to q ∷ ls) = new_in_scope scope ls
new_in_scope scope (new site ∷ ls) = (widened site (site ∷ scope) ls (inl refl), new_in_scope (site ∷ scope) ls)

declared_in_scope : (scope : List ℕ) (i : Option St) → AllInScope (init_scope scope i) (declared_in i)
declared_in_scope scope None = tt
declared_in_scope scope (Some (assign ls es)) = new_in_scope scope ls
declared_in_scope scope (Some (declare sites)) = tt
declared_in_scope scope (Some (update at q op e)) = tt
declared_in_scope scope (Some (bump at q op)) = tt
declared_in_scope scope (Some (discard es)) = tt
declared_in_scope scope (Some (block ss)) = tt
declared_in_scope scope (Some (if_stmt e a b)) = tt
declared_in_scope scope (Some (for_stmt sites test1 post body)) = tt
declared_in_scope scope (Some (range o key value body)) = tt
declared_in_scope scope (Some break_stmt) = tt
declared_in_scope scope (Some continue_stmt) = tt
declared_in_scope scope (Some (return_stmt es)) = tt
declared_in_scope scope (Some (print line ps)) = tt
declared_in_scope scope (Some (panic at q)) = tt
declared_in_scope scope (Some (exit at e)) = tt

-- ---- names

-- names that ask for a type get it
accepted_same : (t : ValueType) (ns : List Name) (ts : List ValueType) → AreAccepted (map (λ (n : Name). wants.Typed t) ns) ts → map (λ (n : Name). t) ns ≡ ts
accepted_same t [] [] all = refl
accepted_same t [] (u ∷ ts) all = absurd all
accepted_same t (n ∷ ns) [] all = absurd all
accepted_same t (n ∷ ns) (u ∷ ts) all = ap (λ l. t ∷ l) (accepted_same t ns ts all.1) ∙ ap (λ (x : ValueType). x ∷ ts) all.0

module _ (T : Table) (text : List ℕ) (p : Program) (all : List Site) (has : HasSites T p all) (wanted1 : List TypeTree) (named : ℕ) where
  abbrev pub Formed1 : (looped : Bool) → Scope → List ℕ → Scope → St → Type 0
  Formed1 looped s scope after t = StFormed T text p all has wanted1 named looped s scope after t

  abbrev pub StsFormed : (looped : Bool) → Scope → List ℕ → Scope → Sts → Type 0
  StsFormed looped s scope after b = Formed s after (all_sites_after (length s.sites) b) (λ m n. StsFit p wanted1 named looped scope m n b)

  -- a header's init statement between the scope outside and that after it
  pub record InitFits (looped : Bool) (s : Scope) (scope : List ℕ) (h : Scope) (i : Option St) : Type 0 where
    pub visible : Visible h (init_scope scope i)
    pub headed_fits : (after : Scope) (t : St) → ((sc : List ℕ) → scope_after sc t ≡ sc) → Formed1 looped h (init_scope scope i) after t → Formed1 looped s scope after (headed i t)
    pub keeps : (t : St) → ((sc : List ℕ) → scope_after sc t ≡ sc) → scope_after scope (headed i t) ≡ scope

  no_init : (looped : Bool) (s : Scope) (scope : List ℕ) → Visible s scope → InitFits looped s scope (opened s) None
  no_init looped s scope visible = record {
    visible = visible_opened s scope visible;
    headed_fits = λ after t still f. record { more = f.more; upto = f.upto; fit = f.fit };
    keeps = λ t still. still scope;
  }

  some_init : (looped : Bool) (s : Scope) (scope : List ℕ) (h : Scope) (i : St) → Formed1 looped (opened s) scope h i × Visible h (scope_after scope i) → InitFits looped s scope h (Some i)
  some_init looped s scope h i k = record {
    visible = k.1;
    headed_fits = λ after t still f. record {
      more = omega (arith, k.0.more, f.more);
      upto = omega (arith, declared_ordered (declared_after (length s.sites) i) (length h.sites) k.0.upto t, f.upto);
      fit = λ n le. (k.0.fit n (omega (arith, le, f.more)), (st_wider p wanted1 named looped (scope_after scope i) (length h.sites) (declared_after (length s.sites) i) n n k.0.upto (omega arith) t (f.fit n le), tt));
    };
    keeps = λ t still. refl;
  }

  module _ (s : Scope) (scope : List ℕ) (visible : Visible s scope) (types_are : s.types ≡ T) (formed : IsFormed T) (agreed : (r : Scope) → package_of r ≡ package_of s → Extends r.sites all → Agrees r p) where
    pub init_fits : (looped : Bool) (init : Option Simple) (i : Option St) → init_statement text s init ≡ Some i → Within p all (header text s init) → InitFits looped s scope (header text s init) i
    init_fits looped None i is ext = subst (λ (o : Option St). InitFits looped s scope (opened s) o) (same_some is) (no_init looped s scope visible)
    init_fits looped (Some m) i is ext =
        let q = map_some Some (simple_statement text (opened s) m) i is in
        let ext0 = (within_before p all (opened s) (header text s (Some m)) (grows_simple text (opened s) m) ext).0 in
        subst (λ (o : Option St). InitFits looped s scope (header text s (Some m)) o) q.2
        (some_init looped s scope (header text s (Some m)) q.0
        (simple_formed T text p all has wanted1 named looped (opened s) scope (visible_opened s scope visible) types_are (agreed (opened s) refl ext0) m q.0 ext q.1))

    -- ---- an `if`

    -- its header in form
    abbrev pub ChoiceFits : (looped : Bool) → Scope → Choice → Type 0
    ChoiceFits looped h c = InitFits looped s scope h c.init × ExFits p (init_scope scope c.init) bools c.condition

    pub guard_fits : (looped : Bool) (g : Guard) (c : Choice) → guard_head text s g ≡ Some c → Within p all (header text s g.init) → package_of (header text s g.init) ≡ package_of s → ChoiceFits looped (header text s g.init) c
    guard_fits looped g c is ext signed =
        let h = header text s g.init in
        let r = and_then_some (λ i. option_map (λ x. record { init = i; condition = x }) (condition text h g.condition)) (init_statement text s g.init) c is in
        let q = map_some (λ x. record { init = r.0; condition = x }) (condition text h g.condition) c r.2 in
        let i = init_fits looped g.init r.0 r.1 ext in
        subst (λ (k : Choice). ChoiceFits looped h k) q.2 (i, condition_fits p (init_scope scope r.0) text h (shown_site h (init_scope scope r.0) i.visible) (shown_number h (init_scope scope r.0) i.visible) i.visible.held (agreed h signed ext.0) g.condition q.0 q.1)

    pub choice_formed : (looped : Bool) (h inner after : Scope) (c : Choice) (y z : Sts) → ChoiceFits looped h c → StsFormed looped h (init_scope scope c.init) inner y → StsFormed looped inner (init_scope scope c.init) after z
        → Formed1 looped s scope after (chosen c y z)
    choice_formed looped h inner after c y z fits a b =
        fits.0.headed_fits after (if_stmt c.condition y z) (λ sc. refl)
        (record {
          more = omega (arith, a.more, b.more);
          upto = omega (arith, all_ordered (all_sites_after (length h.sites) y) (length inner.sites) a.upto z, b.upto);
          fit = λ n le. (fits.1, a.fit n (omega (arith, le, b.more)), sts_wider p wanted1 named looped (init_scope scope c.init) (length inner.sites) (all_sites_after (length h.sites) y) n n a.upto (omega arith) z (b.fit n le));
        })

    -- ---- a loop

    -- its header in form, and the scope of its body
    abbrev pub HeadFits : (looped : Bool) → Scope → Head → Type 0
    HeadFits looped h (for_clause init test1 post) =
        InitFits looped s scope h init × TestFits p (init_scope scope init) test1 × ((m : ℕ) → all_sites_after m post ≡ m) × ((m n : ℕ) → StsFit p wanted1 named false (init_scope scope init) m n post)
    HeadFits looped h (range_clause r) = RangeFits T text p all has wanted1 named looped s scope h r

    abbrev pub head_scope : Head → List ℕ
    head_scope (for_clause init test1 post) = init_scope scope init
    head_scope (range_clause r) = range_scope scope r

    pub head_visible : (looped : Bool) (h : Scope) (k : Head) → HeadFits looped h k → Visible h (head_scope k)
    head_visible looped h (for_clause init test1 post) fits = fits.0.visible
    head_visible looped h (range_clause r) fits = fits.visible

    pub loop_formed : (looped : Bool) (h after : Scope) (k : Head) (y : Sts) → HeadFits looped h k → StsFormed true h (head_scope k) after y → Formed1 looped s scope after (for_of k y)
    loop_formed looped h after (for_clause init test1 post) y fits a =
        fits.0.headed_fits after (for_stmt (declared_in init) test1 post y) (λ sc. refl)
        (record {
          more = a.more;
          upto = subst (λ j. all_sites_after j y ≤ length after.sites) (sym (fits.2 (length h.sites))) a.upto;
          fit = λ n le. (declared_in_scope scope init, fits.1, fits.3 (length h.sites) n, subst (λ j. StsFit p wanted1 named true (init_scope scope init) j n y) (sym (fits.2 (length h.sites))) (a.fit n le));
        })
    loop_formed looped h after (range_clause r) y fits a =
        record {
          more = omega (arith, fits.more, a.more);
          upto = omega (arith, all_ordered (over_after (lefts_after (length s.sites) (r.key ∷ r.value ∷ [])) r.over) (length h.sites) fits.upto y, a.upto);
          fit = λ n le. fits.fit n (omega (arith, le, a.more)) y (a.fit n le);
        }

    pub loop_keeps : (looped : Bool) (h : Scope) (k : Head) (y : Sts) → HeadFits looped h k → scope_after scope (for_of k y) ≡ scope
    loop_keeps looped h (for_clause init test1 post) y fits = fits.0.keeps (for_stmt (declared_in init) test1 post y) (λ sc. refl)
    loop_keeps looped h (range_clause r) y fits = refl

    optional_test : (sc : List ℕ) (o : Option Ex) → OptionalFits p sc o → TestFits p sc o
    optional_test sc None fits = tt
    optional_test sc (Some e) fits = fits

    -- a post statement declares no site
    abbrev PostFits : List ℕ → Sts → Type 0
    PostFits sc b = ((m : ℕ) → all_sites_after m b ≡ m) × ((m n : ℕ) → StsFit p wanted1 named false sc m n b)

    post_fits : (h : Scope) (sc : List ℕ) (post : Option Simple) (b : Sts) → Visible h sc → h.types ≡ T → Agrees h p → Within p all (behind_post text h post) → post_statement text h post ≡ Some b → PostFits sc b
    post_fits h sc None b v h_types agrees ext is = subst (λ (x : Sts). PostFits sc x) (same_some is) (λ m. refl, λ m n. tt)
    post_fits h sc (Some k) b v h_types agrees ext is =
        let q = map_some alone (post_simple text h k) b is in
        let f = by k q.0 ext q.1 in
        subst (λ (x : Sts). PostFits sc x) q.2 (λ m. f.0 m, λ m n. (f.1 m n, tt))
      where
        by : (m : Simple) (t : St) → Within p all (behind_post_simple text h m) → post_simple text h m ≡ Some t → Still T text p all has wanted1 named false sc t
        by (tree.express e) t ext1 is1 = simple_still T text p all has wanted1 named false h sc v h_types agrees (tree.express e) t tt ext1 is1
        by (tree.assign ls at es) t ext1 is1 = simple_still T text p all has wanted1 named false h sc v h_types agrees (tree.assign ls at es) t tt ext1 is1
        by (tree.update ls at tree_op es) t ext1 is1 = simple_still T text p all has wanted1 named false h sc v h_types agrees (tree.update ls at tree_op es) t tt ext1 is1
        by (tree.define ns at es) t ext1 is1 = absurd (none_some is1)
        by (tree.increment e at) t ext1 is1 = simple_still T text p all has wanted1 named false h sc v h_types agrees (tree.increment e at) t tt ext1 is1
        by (tree.decrement e at) t ext1 is1 = simple_still T text p all has wanted1 named false h sc v h_types agrees (tree.decrement e at) t tt ext1 is1

    -- what fits before a post statement fits after it
    post_sites : (h : Scope) (post : Option Simple) → (behind_post text h post).sites ≡ h.sites
    post_sites h None = refl
    post_sites h (Some (tree.express e)) = refl
    post_sites h (Some (tree.assign ls at es)) = refl
    post_sites h (Some (tree.update ls at tree_op es)) = refl
    post_sites h (Some (tree.define ns at es)) = refl
    post_sites h (Some (tree.increment e at)) = refl
    post_sites h (Some (tree.decrement e at)) = refl

    init_behind : (looped : Bool) (h : Scope) (post : Option Simple) (i : Option St) → InitFits looped s scope h i → InitFits looped s scope (behind_post text h post) i
    init_behind looped h post i k =
        let same1 : length (behind_post text h post).sites ≡ length h.sites = ap length (post_sites h post) in
        record {
          visible = visible_kept h (behind_post text h post) (init_scope scope i) k.visible (keeps_post text h post);
          headed_fits = λ after t still f. k.headed_fits after t still
              (record { more = omega (arith, f.more, same1); upto = subst (λ j. declared_after j t ≤ length after.sites) same1 f.upto; fit = λ n le. subst (λ j. StFits p wanted1 named looped (init_scope scope i) j n t) same1 (f.fit n le) });
          keeps = k.keeps;
        }

    pub clause_fits : (looped : Bool) (c : Clause) (k : Head) → clause_head text s c ≡ Some k → Within p all (clause_scope text s c) → HeadFits looped (clause_scope text s c) k
    clause_fits looped forever k is ext = subst (λ (x : Head). HeadFits looped (opened s) x) (same_some is) (no_init looped s scope visible, tt, λ m. refl, λ m n. tt)
    clause_fits looped (while_true e) k is ext =
        let r = and_then_some (λ x. option_map (for_clause None x) (Some done)) (option_map Some (condition text (opened s) e)) k is in
        let q = map_some Some (condition text (opened s) e) r.0 r.1 in
        let fits = condition_fits p scope text (opened s) (shown_site (opened s) scope (visible_opened s scope visible)) (shown_number (opened s) scope (visible_opened s scope visible)) (visible_opened s scope visible).held (agreed (opened s) refl ext.0) e q.0 q.1 in
        subst (λ (x : Head). HeadFits looped (opened s) x) (same_some (ap (λ (x : Option Ex). Some (for_clause None x done)) q.2 ∙ r.2)) (no_init looped s scope visible, fits, λ m. refl, λ m n. tt)
    clause_fits looped (counting init test1 post) k is ext =
        let h = header text s init in
        let r = and_then_some (λ i. option_and_then (λ x. option_map (for_clause i x) (post_statement text h post)) (test text h test1)) (init_statement text s init) k is in
        let q = and_then_some (λ x. option_map (for_clause r.0 x) (post_statement text h post)) (test text h test1) k r.2 in
        let o = map_some (for_clause r.0 q.0) (post_statement text h post) k q.2 in
        let ext1 = within_before p all h (behind_post text h post) (keeps_grows h (behind_post text h post) (keeps_post text h post)) ext in
        let i = init_fits looped init r.0 r.1 ext1 in
        let agrees = agreed h (grows_header text s init).kept ext1.0 in
        let last1 = post_fits h (init_scope scope r.0) post o.0 i.visible (grows_types (opened s) h (grows_header text s init) ∙ types_are) agrees ext o.1 in
        subst (λ (x : Head). HeadFits looped (behind_post text h post) x) o.2 (init_behind looped h post r.0 i, optional_test (init_scope scope r.0) q.0 (test_fits p (init_scope scope r.0) text h (shown_site h (init_scope scope r.0) i.visible) (shown_number h (init_scope scope r.0) i.visible) i.visible.held agrees test1 q.0 q.1), last1.0, last1.1)
    clause_fits looped (ranging t at e) k is ext =
        let q = map_some range_clause (range_in text s t e) k is in
        subst (λ (x : Head). HeadFits looped (behind_range text s t at e) x) q.2 (range_fits T text p all has wanted1 named s scope visible types_are formed agreed looped t at e q.0 q.1 ext.0)

    -- ---- variables

    -- names with their types, and a declaration of them
    spec_declared_formed : (looped : Bool) (v : ValueSpec) (ts : List ValueType) (t : St) → SlotsHave (spec_slots text s v) ts → Extends (behind_spec text s v).sites all → spec_declared text s v ≡ Some t
        → Formed1 looped s scope (behind_spec text s v) t × Visible (behind_spec text s v) (scope_after scope t)
    spec_declared_formed looped v ts t have ext is =
        let q = map_some (λ es. declare (sites_of es)) (spec_entries text s v) t is in
        let f = entries_fit T text p all has Parameter s scope (spec_slots text s v) ts q.0 types_are visible have q.1 ext in
        let after = behind_spec text s v in
        subst (λ (x : St). Formed1 looped s scope after x × Visible after (scope_after scope x)) q.2 (
          record {
            more = omega (arith, f.count);
            upto = omega (arith, sites_upto p (length s.sites) (type_trees T ts) q.0 f.fit, f.count);
            fit = λ n le. next_of_params p (length s.sites) n (type_trees T ts) q.0 f.fit (omega (arith, le, f.count));
          },
          subst (λ (w : List ℕ). Visible after w) (named_scope_of scope q.0) f.visible,
        )

    spec_assigned_formed : (looped : Bool) (v : ValueSpec) (t : St) → Extends s.sites all → Extends (behind_spec text s v).sites all
        → ((ts : List ValueType) → taken_types (spec_wanted text s v) (seen text s v.values) ≡ Some ts → AreAccepted (spec_wanted text s v) ts → SlotsHave (spec_slots text s v) ts) → spec_assigned text s v ≡ Some t
        → Formed1 looped s scope (behind_spec text s v) t × Visible (behind_spec text s v) (scope_after scope t)
    spec_assigned_formed looped v t ext0 ext have is =
        let after = behind_spec text s v in
        let a = assignment_some (option_map (map entry_left) (spec_entries text s v)) (taken (spec_wanted text s v) (seen text s v.values)) t is in
        let values = taken_fits T p scope formed (spec_wanted text s v) (seen text s v.values) a.1 (subst (λ (U : Table). AllFit U p scope (seen text s v.values)) types_are (seen_fit p scope text s (shown_site s scope visible) (shown_number s scope visible) visible.held (agreed s refl ext0) v.values)) a.3 in
        let found = ap (option_and_then (λ x. value_types (seen text s v.values))) a.3 ∙ values.found in
        let q = map_some (map entry_left) (spec_entries text s v) a.0 a.2 in
        let f = entries_fit T text p all has Parameter s scope (spec_slots text s v) values.types q.0 types_are visible (have values.types found values.accepted) q.1 ext in
        subst (λ (x : St). Formed1 looped s scope after x × Visible after (scope_after scope x)) (ap (λ (l : List Left). assign l a.1) q.2 ∙ a.4) (
          record {
            more = omega (arith, f.count);
            upto = omega (arith, lefts_upto p (length s.sites) (type_trees T values.types) q.0 f.fit, f.count);
            fit = λ n le. (type_trees T values.types, lefts_of_params p scope (length s.sites) n (type_trees T values.types) q.0 f.fit (omega (arith, le, f.count)), values.fit);
          },
          subst (λ (w : List ℕ). Visible after w) (sym (left_scope scope q.0)) f.visible,
        )

    pub spec_formed : (looped : Bool) (v : ValueSpec) (t : St) → Extends s.sites all → Extends (behind_spec text s v).sites all → spec_statement text s v ≡ Some t
        → Formed1 looped s scope (behind_spec text s v) t × Visible (behind_spec text s v) (scope_after scope t)
    spec_formed looped v t ext0 ext is =
        let a = allowed_is (is_known text s v.type_expr) (cond (is_bare v.type_expr v.values) (spec_declared text s v) (spec_assigned text s v)) t is in
        by v.type_expr refl a.0 a.1
      where
        slots_are : (o : Option TreeEx) → v.type_expr ≡ o → spec_slots text s v ≡ spec_slots_of text s o (taken_types (spec_wanted text s v) (seen text s v.values)) v.names
        slots_are o o_is = ap (λ (k : Option TreeEx). spec_slots_of text s k (taken_types (spec_wanted text s v) (seen text s v.values)) v.names) o_is

        of_type : (e : TreeEx) (u : ValueType) → v.type_expr ≡ Some e → stated_type text s e ≡ Some u → SlotsHave (spec_slots text s v) (map (λ (n : Name). u) v.names)
        of_type e u o_is u_is =
            subst (λ (ps : List Slot). SlotsHave ps (map (λ (n : Name). u) v.names)) (sym (slots_are (Some e) o_is))
            (subst (λ (w : Option ValueType). SlotsHave (map (slot_with w) v.names) (map (λ (n : Name). u) v.names)) (sym u_is) (with_have u v.names))

        wanted_are : (e : TreeEx) (u : ValueType) → v.type_expr ≡ Some e → stated_type text s e ≡ Some u → spec_wanted text s v ≡ map (λ (n : Name). wants.Typed u) v.names
        wanted_are e u o_is u_is = ap (λ (k : Option TreeEx). map (λ (n : Name). declared_wanted text s k) v.names) o_is ∙ ap (λ (w : Option ValueType). map (λ (n : Name). wanted_by w) v.names) u_is

        by : (o : Option TreeEx) → v.type_expr ≡ o → is_known text s o ≡ true → cond (is_bare o v.values) (spec_declared text s v) (spec_assigned text s v) ≡ Some t
            → Formed1 looped s scope (behind_spec text s v) t × Visible (behind_spec text s v) (scope_after scope t)
        by None o_is known is1 =
            spec_assigned_formed looped v t ext0 ext
            (λ ts found accepted. subst (λ (ps : List Slot). SlotsHave ps ts) (sym (slots_are None o_is))
            (subst (λ (w : Option (List ValueType)). SlotsHave (slots_each w v.names) ts) (sym found) (each_have ts v.names (accepted_long (spec_wanted text s v) ts accepted ∙ length-map v.names (λ (n : Name). declared_wanted text s v.type_expr))))) is1
        by (Some e) o_is known is1 = with_type (stated_type text s e) refl known (is_bare (Some e) v.values) is1
          where
            with_type : (u : Option ValueType) → stated_type text s e ≡ u → is_some u ≡ true → (b : Bool) → cond b (spec_declared text s v) (spec_assigned text s v) ≡ Some t
                → Formed1 looped s scope (behind_spec text s v) t × Visible (behind_spec text s v) (scope_after scope t)
            with_type None u_is known1 b is2 = absurd cc
            with_type (Some u) u_is known1 true is2 = spec_declared_formed looped v (map (λ (n : Name). u) v.names) t (of_type e u o_is u_is) ext is2
            with_type (Some u) u_is known1 false is2 =
                spec_assigned_formed looped v t ext0 ext
                (λ ts found accepted. subst (λ (l : List ValueType). SlotsHave (spec_slots text s v) l) (accepted_same u v.names ts (subst (λ (w : List Wanted). AreAccepted w ts) (wanted_are e u o_is u_is) accepted)) (of_type e u o_is u_is)) is2
