-- What a reader and a writer that keep something read from, and write to.
use Rattle.resil_input.specs.declared.kept.KeptFront.{KeptFront}
use Rattle.resil_input.specs.declared.kept.KeptInput.{KeptInput}

-- the reader itself
abbrev pub reader_of : {R : Type 0} → KeptInput R → R
reader_of s = s.inner

-- the writer itself
abbrev pub writer_of : {W : Type 0} → KeptFront W → W
writer_of s = s.inner
