-- The text of the program of a number.
use Rattle.std.specs.Prelude.{ℕ, zero, suc, ◌-◌, ◌%◌, ◌==◌, List, [], ◌++◌, codes, decimal, if◌then◌else◌}

-- the greatest number of a program, which is the number of its functions but the first and `main`
abbrev pub most_functions : ℕ
most_functions = 400

abbrev pub beginning_text : List ℕ
beginning_text = codes "package main\n\nvar keep *int\n\nfunc f0(p *int, d int) *int {\n\t*p += d\n\treturn p\n}\n"

-- every third function keeps the address that it gets
abbrev pub kept_text : ℕ → List ℕ
kept_text k = if k % 3 == 0 then codes "\tkeep = q\n" else []

-- a function that calls the one before it
abbrev pub function_text : ℕ → List ℕ
function_text k =
    codes "\nfunc f" ++ (decimal k ++ (codes "(p *int, d int) *int {\n\tx := d + " ++ (decimal k ++ (codes "\n\tq := f" ++ (decimal (k - 1) ++ (codes "(&x, " ++ (decimal k ++ (codes ")\n" ++ (kept_text k ++ codes "\t*p += *q\n\treturn p\n}\n")))))))))

-- those of the numbers 1 to k
abbrev pub functions : ℕ → List ℕ
functions zero = []
functions (suc k) = functions k ++ function_text (suc k)

abbrev pub main_text : ℕ → List ℕ
main_text k = codes "\nfunc main() {\n\ts := 0\n\tprintln(*f" ++ (decimal k ++ (codes "(&s, " ++ (decimal k ++ codes "))\n}\n")))

abbrev pub text : ℕ → List ℕ
text k = beginning_text ++ (functions k ++ main_text k)
