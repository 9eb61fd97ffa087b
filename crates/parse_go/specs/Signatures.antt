-- What was read before the body of a function, from what lies in memory.
use Rattle.syntax.specs.Declarations.{File, parameters_of, declarations_of}
use Rattle.parse_go.specs.declared.signature.File.{File as CodeFile}
use Rattle.parse_go.specs.declared.signature.Named.{Named as CodeNamed}
use Rattle.parse_go.specs.declared.signature.Signature.{Signature as CodeSignature}
use Rattle.parse_go.specs.Machine.{Named, Signature, with_results}

abbrev pub file_in : CodeFile → File
file_in f = record { package_name = f.package_name; declarations = declarations_of f.decls.items }

abbrev pub named_of : CodeNamed → Named
named_of n = record { file = file_in n.file; pos = n.pos; name = n.name }

abbrev pub signature_of : CodeSignature → Signature
signature_of s = with_results (named_of s.named) (parameters_of s.params) (parameters_of s.results)
