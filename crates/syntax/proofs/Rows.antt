-- Lists in memory as abstract syntax: the elements in a row are those of its vector, and one more at the end.
use Rattle.std.proofs.Common.{◌≡◌, max, List, [], ◌∷◌, ◌++◌, Option, Some, None, refl, ap, arith}
use Rattle.syntax.specs.declared.expression.Name.{Name}
use Rattle.syntax.specs.declared.expression.Expr.{Expr, Row_of-Expr, end_of-Expr, more_of-Expr, items-the_row-Expr, Row_of-Element, end_of-Element, more_of-Element, items-the_row-Element}
use Rattle.syntax.specs.declared.expression.Element.{Element}
use Rattle.syntax.specs.declared.expression.Element.TheVariants as item
use Rattle.syntax.specs.declared.statement.Stmt.{Stmt, Row_of-Stmt, end_of-Stmt, more_of-Stmt, items-the_row-Stmt}
use Rattle.syntax.specs.Expressions.{Ex, Exs, none, some, Elements, no_elements, element, ex_of, exs_of, arguments_of, element_row, elements_of}
use Rattle.syntax.specs.Statements.{cons, stm_of, stms_of, row_of}
use Rattle.syntax.specs.Heights.{height, greatest_height, elements_height}
use Rattle.syntax.specs.Lists.{appended, with_ex, elements_joined, with_element, joined, one}

pub argument_rows : {m : _} (k : Row_of-Expr m) → arguments_of k ≡ exs_of (items-the_row-Expr m k)
argument_rows end_of-Expr = refl
argument_rows (more_of-Expr e es) = ap (some (ex_of e)) (argument_rows es)

pub element_rows : {m : _} (k : Row_of-Element m) → element_row k ≡ elements_of (items-the_row-Element m k)
element_rows end_of-Element = refl
element_rows (more_of-Element (item.Plain e) es) = ap (element None (ex_of e)) (element_rows es)
element_rows (more_of-Element (item.Keyed x e) es) = ap (element (Some x) (ex_of e)) (element_rows es)

pub statement_rows : {m : _} (k : Row_of-Stmt m) → row_of k ≡ stms_of (items-the_row-Stmt m k)
statement_rows end_of-Stmt = refl
statement_rows (more_of-Stmt s ss) = ap (cons (stm_of s)) (statement_rows ss)

pub exs_push : (es : List Expr) (e : Expr) → exs_of (es ++ e ∷ []) ≡ with_ex (exs_of es) (ex_of e)
exs_push [] e = refl
exs_push (x ∷ es) e = ap (some (ex_of x)) (exs_push es e)

pub elements_push_plain : (es : List Element) (e : Expr) → elements_of (es ++ item.Plain e ∷ []) ≡ with_element (elements_of es) None (ex_of e)
elements_push_plain [] e = refl
elements_push_plain (item.Plain x ∷ es) e = ap (element None (ex_of x)) (elements_push_plain es e)
elements_push_plain (item.Keyed k x ∷ es) e = ap (element (Some k) (ex_of x)) (elements_push_plain es e)

pub elements_push_keyed : (es : List Element) (key : Name) (e : Expr) → elements_of (es ++ item.Keyed key e ∷ []) ≡ with_element (elements_of es) (Some key) (ex_of e)
elements_push_keyed [] key e = refl
elements_push_keyed (item.Plain x ∷ es) key e = ap (element None (ex_of x)) (elements_push_keyed es key e)
elements_push_keyed (item.Keyed k x ∷ es) key e = ap (element (Some k) (ex_of x)) (elements_push_keyed es key e)

pub stms_push : (ss : List Stmt) (s : Stmt) → stms_of (ss ++ s ∷ []) ≡ joined (stms_of ss) (one (stm_of s))
stms_push [] s = refl
stms_push (x ∷ ss) s = ap (cons (stm_of x)) (stms_push ss s)

-- the greatest height with an expression more
pub higher_push : (es : Exs) (e : Ex) → greatest_height (with_ex es e) ≡ max (greatest_height es) (height e)
higher_push none e = omega arith
higher_push (some x es) e = omega (arith, higher_push es e)

pub elements_higher : (es : Elements) (key : Option Name) (e : Ex) → elements_height (with_element es key e) ≡ max (elements_height es) (height e)
elements_higher no_elements key e = omega arith
elements_higher (element k x es) key e = omega (arith, elements_higher es key e)

pub appended_assoc : (a b c : Exs) → appended (appended a b) c ≡ appended a (appended b c)
appended_assoc none b c = refl
appended_assoc (some e a) b c = ap (some e) (appended_assoc a b c)

pub elements_assoc : (a b c : Elements) → elements_joined (elements_joined a b) c ≡ elements_joined a (elements_joined b c)
elements_assoc no_elements b c = refl
elements_assoc (element k e a) b c = ap (element k e) (elements_assoc a b c)
