-- What flows in a program, as abstract syntax, without vectors and boxes.
use Rattle.std.specs.Prelude.{ℕ, Bool, List, Option}
use Rattle.value_flows.specs.declared.value.Target.{Target}
use Rattle.value_flows.specs.declared.program.Site.{Site}
use Rattle.value_flows.specs.declared.tags.ResultTag.{ResultTag}

mutual
  -- a value, by the addresses that it may hold
  pub data Val : Type 0 where
    -- the value of a site's variable, and its address, or those of a part of it
    variable : ℕ → Val
    address : ℕ → Val
    -- an address, or that of a part of what lies at it; whether pointers lie there
    inside : Bool → Val → Val
    -- what lies at an address, or a part of it
    behind : Val → Val
    -- values side by side
    parts : Vals → Val
    -- a value, and others that are evaluated beside it and go nowhere
    beside : Vals → Val → Val
    -- a value that also goes to a target, wherever else it goes
    sent : Target → Val → Val
    -- a call of a function by its number, with one result
    call : ℕ → Exs → Val

  pub data Vals : Type 0 where
    none : Vals
    more : Val → Vals → Vals

  -- the values of an assignment, a call or a return: one of each, or all results of a call
  pub data Exs : Type 0 where
    each : Vals → Exs
    results : ℕ → Exs → Exs

-- what a function does: values go to their targets, or nowhere; a variable of a `for` is carried on
pub data Act : Type 0 where
  give : Exs → List (Option Target) → Act
  carry : ℕ → Act

-- a result: its site, where it has a name, and whether its values have pointers
pub record Result : Type 0 where
  pub site : Option ℕ
  pub pointers : Bool

-- a function: the number of its first site, how many it has, the site of each parameter with a name, its results, and what it does
pub record Func : Type 0 where
  pub first : ℕ
  pub count : ℕ
  pub params : List (Option ℕ)
  pub results : List Result
  pub body : List Act

pub record Program : Type 0 where
  pub funcs : List Func
  pub sites : List Site

-- by how many dereferences at least a parameter flows to the heap, and to which results
pub record ParamTags : Type 0 where
  pub heap : Option ℕ
  pub results : List ResultTag

-- those of the parameters of each function
abbrev pub Tags : Type 0
Tags = List (List ParamTags)
