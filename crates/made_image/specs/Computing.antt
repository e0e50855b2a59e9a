-- One name that opens every definition that a made image computes with.
use Rattle.made_image.specs.RvDecode.Encode.{load_funct3, store_funct3, immediate_funct3, immediate_funct7}
use Rattle.made_image.specs.RvDecode.Encode.{register_funct3, register_funct7, amo_funct5, r_word, i_word, s_word}
use Rattle.made_image.specs.RvDecode.Encode.{u_word, atomic_word, encode_of}
use Rattle.text_model.specs.Computing.{runs_compute}
use Rattle.elf_load.specs.Computing.{images_compute}
use Rattle.made_image.specs.MadeImage.{round_of, rounds_of, made_program, program_bytes, made_segments, made_image}

-- Where a proof says `unfolding made_images_compute`, made images compute.
unfoldable pub made_images_compute : Unit {0}
unfolding load_funct3 store_funct3 immediate_funct3 immediate_funct7 register_funct3 register_funct7 amo_funct5 r_word
    i_word s_word u_word atomic_word encode_of runs_compute images_compute round_of rounds_of made_program program_bytes
    made_segments made_image
made_images_compute = tt
