use Rattle.std.proofs.Common.{◌≡◌, [], ◌∷◌, ◌+◌, List, drop, refl, sym, ap, ◌∙◌, subst, arith}
use Rattle.std.specs.Option.{option_map}
use Rattle.syntax.specs.Declarations.{function_of}
use Rattle.names.specs.Scope.{scope_of}
use Rattle.type_faults.proofs.Lists.{from_one, nothing_left}
use Rattle.package_values.specs.Passing.{item_of}
use Rattle.types_go.specs.declared.members.Member.{Member as MemberData}
use Rattle.types_go.specs.Functions.{behind_members}
use Rattle.types_go.specs.Passing.{member_of, member_views}
use Rattle.types_go.proofs.functions.check_members.Goals as goal
use Rattle.types_go.proofs.Walk.{MembersKept, GlobalsKept, members_start, function_more, variable_more, globals_more, globals_all, functions_all, fault_all, places_are}
use Rattle.types_go.proofs.functions.check_members.Goals.{in-Function+in_ok-checked-in-Function+in_ok-funcs-in-Function, in-Variable+in_ok-check_variable-in-Variable}

pub check_function-requires : goal.check_function-requires
check_function-requires c = c.loop-member.invariant.0.inside

pub loop-member-init : goal.loop-member-init
loop-member-init c = (
  rw (c.new.ensures.items) (members_start c.args.text.now (scope_of c.args.heads.now) (scope_of c.args.scope.now) (member_views c.args.members.now) c.requires),
  rw (c.new-globals.ensures.items) refl,
  omega arith,
)

pub loop-member-preserved : goal.loop-member-preserved
loop-member-preserved c =
    let text = c.args.text.now in
    let heads = scope_of c.args.heads.now in
    let start = scope_of c.args.scope.now in
    let s = scope_of c.loop-member.scope in
    let xs = c.args.members.now in
    let k = c.loop-member.member-index in
    let i = c.loop-member.number in
    let x : MemberData = c.member-item.result in
    let rest = member_views (drop (k + 1) xs) in
    let all = member_views xs in
    let so_far = option_map (λ v. v.items) c.loop-member.funcs in
    let gs = c.loop-member.globals.items in
    let here : drop k xs ≡ x ∷ drop (k + 1) xs = from_one xs k x c.loop-member-test.true c.member-item.is in
    let ahead : MembersKept text heads start all (member_of x ∷ rest) s i so_far c.loop-member.fault =
    subst (λ (l : List MemberData). MembersKept text heads start all (member_views l) s i so_far c.loop-member.fault) here c.loop-member.invariant.0 in
    let before : GlobalsKept text heads start all (member_of x ∷ rest) s gs =
    subst (λ (l : List MemberData). GlobalsKept text heads start all (member_views l) s gs) here c.loop-member.invariant.1 in
    elim c.match-member.branch [
      | in-Function+in_ok-checked-in-Function+in_ok-funcs-in-Function w ↦
          let found = w.in_ok-checked-in-Function.ensures in
          let checked = w.in_ok-checked-in-Function.checked in
          let g = function_of w.in-Function.f.now in
          let next1 = subst (λ (m : MemberData). MembersKept text heads start all (member_of m ∷ rest) s i so_far c.loop-member.fault) w.in-Function.is ahead in
          let next2 = subst (λ (m : MemberData). GlobalsKept text heads start all (member_of m ∷ rest) s gs) w.in-Function.is before in
          rw (w.scope-is, w.funcs-is, w.fault-is, w.number-is, w.globals-is, found.scope, w.in_ok-funcs-in-Function.ensures, w.lesser-fault.ensures) (
            function_more text heads start all g rest s i so_far checked.func c.loop-member.fault checked.fault next1 found.func found.pos found.fault,
            next2,
            omega (arith, c.loop-member.invariant.2),
          )
      | in-Variable+in_ok-check_variable-in-Variable w ↦
          let found = w.in_ok-check_variable-in-Variable.ensures in
          let v = item_of w.in-Variable.item in
          let n = w.in-Variable.value.0 in
          let next1 = subst (λ (m : MemberData). MembersKept text heads start all (member_of m ∷ rest) s i so_far c.loop-member.fault) w.in-Variable.is ahead in
          let next2 = subst (λ (m : MemberData). GlobalsKept text heads start all (member_of m ∷ rest) s gs) w.in-Variable.is before in
          rw (w.scope-is, w.funcs-is, w.fault-is, w.number-is, w.globals-is, found.scope) (
            variable_more text heads start all n v rest s i so_far c.loop-member.fault next1,
            globals_more text heads start all n v rest s gs _ next2 found.globals,
            omega (arith, c.loop-member.invariant.2),
          )
    ]

pub returns-clause-funcs : goal.returns-clause-funcs
returns-clause-funcs c =
    let text = c.args.text.now in
    let heads = scope_of c.args.heads.now in
    let start = scope_of c.args.scope.now in
    let s = scope_of c.loop-member.scope in
    let xs = c.args.members.now in
    let none : drop c.loop-member.member-index xs ≡ [] = nothing_left xs c.loop-member.member-index (λ l. absurd (omega (arith, l, c.loop-member-test.false))) in
    functions_all text heads start (member_views xs) s c.loop-member.number c.loop-member.funcs c.loop-member.fault
    (subst (λ (l : List MemberData). MembersKept text heads start (member_views xs) (member_views l) s c.loop-member.number (option_map (λ v. v.items) c.loop-member.funcs) c.loop-member.fault) none c.loop-member.invariant.0)

pub returns-clause-globals : goal.returns-clause-globals
returns-clause-globals c =
    let text = c.args.text.now in
    let heads = scope_of c.args.heads.now in
    let start = scope_of c.args.scope.now in
    let s = scope_of c.loop-member.scope in
    let xs = c.args.members.now in
    let gs = c.loop-member.globals.items in
    let none : drop c.loop-member.member-index xs ≡ [] = nothing_left xs c.loop-member.member-index (λ l. absurd (omega (arith, l, c.loop-member-test.false))) in
    globals_all text heads start (member_views xs) s gs (subst (λ (l : List MemberData). GlobalsKept text heads start (member_views xs) (member_views l) s gs) none c.loop-member.invariant.1)

pub returns-clause-places : goal.returns-clause-places
returns-clause-places c =
    let text = c.args.text.now in
    let heads = scope_of c.args.heads.now in
    let start = scope_of c.args.scope.now in
    let s = scope_of c.loop-member.scope in
    let xs = c.args.members.now in
    let none : drop c.loop-member.member-index xs ≡ [] = nothing_left xs c.loop-member.member-index (λ l. absurd (omega (arith, l, c.loop-member-test.false))) in
    places_are text heads start (member_views xs) s c.loop-member.number (option_map (λ v. v.items) c.loop-member.funcs) c.loop-member.fault
    (subst (λ (l : List MemberData). MembersKept text heads start (member_views xs) (member_views l) s c.loop-member.number (option_map (λ v. v.items) c.loop-member.funcs) c.loop-member.fault) none c.loop-member.invariant.0)

pub returns-clause-fault : goal.returns-clause-fault
returns-clause-fault c =
    let text = c.args.text.now in
    let heads = scope_of c.args.heads.now in
    let start = scope_of c.args.scope.now in
    let s = scope_of c.loop-member.scope in
    let xs = c.args.members.now in
    let none : drop c.loop-member.member-index xs ≡ [] = nothing_left xs c.loop-member.member-index (λ l. absurd (omega (arith, l, c.loop-member-test.false))) in
    fault_all text heads start (member_views xs) s c.loop-member.number (option_map (λ v. v.items) c.loop-member.funcs) c.loop-member.fault
    (subst (λ (l : List MemberData). MembersKept text heads start (member_views xs) (member_views l) s c.loop-member.number (option_map (λ v. v.items) c.loop-member.funcs) c.loop-member.fault) none c.loop-member.invariant.0)

pub returns-clause-scope : goal.returns-clause-scope
returns-clause-scope c =
    let text = c.args.text.now in
    let heads = scope_of c.args.heads.now in
    let s = scope_of c.loop-member.scope in
    let xs = c.args.members.now in
    let none : drop c.loop-member.member-index xs ≡ [] = nothing_left xs c.loop-member.member-index (λ l. absurd (omega (arith, l, c.loop-member-test.false))) in
    sym (c.loop-member.invariant.0.scope ∙ ap (λ (l : List MemberData). behind_members text heads s (member_views l)) none)
